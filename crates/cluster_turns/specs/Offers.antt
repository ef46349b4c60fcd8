-- What a cluster does at a bus that it has for a moment.
use Rattle.std.specs.Prelude.{ℕ, ◌≡◌, ◌≤◌, ◌<◌, ◌⊎◌, Bool, true, false, List, [], ◌++◌, map, length, take, drop, All, Some, None, Option, Result, Ok, Err, ⊤}
use Rattle.std.specs.Arc.{arc_value}
use Rattle.std.specs.List.{list_any}
use Rattle.t32_base.specs.declared.process.ClusterNo.{ClusterNo}
use Rattle.sys_text.specs.declared.system.System.{System}
use Rattle.bus_msg.specs.declared.entry.Post.{Post}
use Rattle.bus_msg.specs.declared.entry.Entry.{Entry}
use Rattle.cert_sched.specs.Rules.{is_over}
use Rattle.cert_sched.specs.Schedule.{placement}
use Rattle.cert_sched.specs.Losses.{was_lost_in}
use Rattle.cluster_core.specs.View.{ClusterView, disk_calls}
use Rattle.cluster_core.specs.Calls.{RestsIn}
use Rattle.bus_lock.specs.Lists.{MayAdd}
use Rattle.bus_order.specs.declared.marks.Mark.{Mark}
use Rattle.bus_order.specs.declared.marks.Idled.{Idled}
use Rattle.bus_order.specs.declared.refused.Refused.{Refused}
use Rattle.bus_order.specs.declared.refused.Refused.TheVariants.{Over as WasOver, Off as WasOff, Behind as WasBehind, NoMemory}
use Rattle.bus_order.specs.Log.{author_of, open_length}
use Rattle.bus_order.specs.Script.{off_at}
use Rattle.bus_order.specs.declared.marks.Idled.TheVariants.{Marked, Done as WasDone}
use Rattle.bus_order.specs.View.{BusView, Ends, after_words, is_awaited, with_mark, with_post}
use Rattle.cluster_turns.specs.Ends.{followed_length}
use Rattle.cluster_turns.specs.Gone.{is_told_by}
use Rattle.cluster_turns.specs.declared.offers.News.{News}
use Rattle.cluster_turns.specs.declared.offers.Offered.{Offered}
use Rattle.cluster_turns.specs.declared.offers.Offered.TheVariants.{Sent, Behind, Over, Off}

-- the bus has grown, by entries that the cluster may add: its own, and those of the bus
pub record Adds (k : ClusterNo) (old new : BusView) : Type 0 where
  pub system : new.system ≡ old.system
  pub script : new.script ≡ old.script
  pub more : List Entry
  pub log : new.log ≡ old.log ++ more
  pub may : All (MayAdd author_of k.0) more

-- it is of the same system and script still, and its log has grown
pub record HasGrown (old new : BusView) : Type 0 where
  pub system : new.system ≡ old.system
  pub script : new.script ≡ old.script
  pub more : List Entry
  pub log : new.log ≡ old.log ++ more

-- a log has grown, by entries of which none is told by the cluster
pub record GrowsFor (k : ClusterNo) (old new : List Entry) : Type 0 where
  pub more : List Entry
  pub longer : new ≡ old ++ more
  pub others : list_any (is_told_by k) more ≡ false

-- so has the log of a bus, which is of the same system and script still
abbrev pub IsLonger : ClusterNo → BusView → BusView → Type 0
IsLonger k old new = (new.system ≡ old.system) × (new.script ≡ old.script) × GrowsFor k old.log new.log

-- What became of a bus that a cluster has not had for a while: nothing where no other has it, and else others may have added entries.
abbrev pub Later : Bool → ClusterNo → BusView → BusView → Type 0
Later true k old new = new ≡ old
Later false k old new = IsLonger k old new

-- What a port shows of a bus that it gave back: all of it where no other has it, and else its system, its script and its log.
abbrev pub IsLeft : Bool → BusView → BusView → Type 0
IsLeft true left new = new ≡ left
IsLeft false left new = (new.system ≡ left.system) × (new.script ≡ left.script) × (new.log ≡ left.log)

-- a cluster had the bus for a moment: as it found it, and as it left it
pub record Visits (alone : Bool) (k : ClusterNo) (old new : BusView) (Done : BusView → BusView → Type 0) : Type 0 where
  pub found : BusView
  pub left : BusView
  pub later : Later alone k old found
  pub is_left : IsLeft alone left new
  pub done : Done found left

-- a log goes on, and the cluster is not off
pub record GoesOnFor (k : ClusterNo) (b : BusView) : Type 0 where
  pub goes_on : is_over b.system b.log ≡ false
  pub lives : off_at b.log k ≡ None

-- What became of a post that was offered, once the words that were due were carried out. It was sent, or the cluster had not seen all of the log, or the log was
-- over, or the cluster was lost in what it had not seen.
abbrev pub OfferIs : ClusterNo → ℕ → Post → Offered → BusView → BusView → Type 0
OfferIs k cursor post Sent found left = GoesOnFor k (after_words found) × (cursor ≡ length (after_words found).log) × (left ≡ with_post (after_words found) post)
OfferIs k cursor post Behind found left = (is_over left.system left.log ≡ false) × (was_lost_in (drop cursor left.log) k ≡ false) × (cursor < length left.log) × (left ≡ after_words found)
OfferIs k cursor post Over found left = (is_over left.system left.log ≡ true) × (left ≡ after_words found)
OfferIs k cursor post Off found left = (was_lost_in (drop cursor left.log) k ≡ true) × (left ≡ after_words found)

-- a cluster that had not seen all of a log was lost in what it had not seen, or is behind
abbrev pub IfLost : Bool → Offered → Type 0
IfLost true offered = offered ≡ Off
IfLost false offered = offered ≡ Behind

-- The same by what the bus answered: one that had not seen all of the log may have been lost in that, and come back. After want of memory nothing is said.
abbrev pub OfferAnswers : ClusterNo → ℕ → Post → Result ℕ Refused → BusView → BusView → Type 0
OfferAnswers k cursor post (Ok at) found left = OfferIs k cursor post Sent found left
OfferAnswers k cursor post (Err (WasOver at)) found left = OfferIs k cursor post Over found left
OfferAnswers k cursor post (Err (WasOff at)) found left = OfferIs k cursor post Off found left
OfferAnswers k cursor post (Err (WasBehind n)) found left = (is_over left.system left.log ≡ false) × (cursor < length left.log) × (left ≡ after_words found)
OfferAnswers k cursor post (Err NoMemory) found left = ⊤

-- What the bus made of a mark that it took: it waits for another cluster, or the run has ended by the entry at this place.
abbrev pub TakesMark : BusView → ClusterNo → ℕ → Mark → Idled → BusView → Type 0
TakesMark found k cursor m Marked left =
    GoesOnFor k found × (cursor ≡ length found.log) × (is_awaited (placement found.system found.log) left.marks ≡ true) × (left ≡ with_mark found k m)
TakesMark found k cursor m (WasDone at) left = GoesOnFor k found × (cursor ≡ length found.log) × (at ≡ length found.log) × Ends (with_mark found k m) left

-- What became of a mark that was told, once the words that were due were carried out. The bus took it, or the log was over, or the cluster was lost, or it had
-- not seen all of the log.
abbrev pub TellIs : ClusterNo → ℕ → Mark → Option Idled → BusView → BusView → Type 0
TellIs k cursor m (Some idled) found left = TakesMark (after_words found) k cursor m idled left
TellIs k cursor m None found left = ((is_over left.system left.log ≡ true) ⊎ (was_lost_in (drop cursor left.log) k ≡ true) ⊎ (cursor < length left.log)) × (left ≡ after_words found)

-- the same by what the bus answered
abbrev pub TellAnswers : ClusterNo → ℕ → Mark → Result Idled Refused → BusView → BusView → Type 0
TellAnswers k cursor m (Ok idled) found left = TellIs k cursor m (Some idled) found left
TellAnswers k cursor m (Err (WasOver at)) found left = TellIs k cursor m None found left
TellAnswers k cursor m (Err (WasOff at)) found left = TellIs k cursor m None found left
TellAnswers k cursor m (Err (WasBehind n)) found left = TellIs k cursor m None found left
TellAnswers k cursor m (Err NoMemory) found left = ⊤

-- what a cluster in which nothing can move tells of itself
pub record IsToldBy (c : ClusterView) (m : Mark) : Type 0 where
  pub empty : c.queue ≡ []
  pub rests : RestsIn c m.rests
  pub steps : m.steps ≡ c.steps
  pub calls : m.calls ≡ disk_calls c

-- the bus has taken the mark of a cluster, or the log is over, or the cluster was lost, or it has not seen all of the log
abbrev pub IsTold : ClusterView → BusView → Type 0
IsTold c b = ((was : BusView) × (m : Mark) × IsToldBy c m × (b ≡ with_mark was c.number m)) ⊎ (is_over b.system b.log ≡ true) ⊎ (was_lost_in (drop c.cursor b.log) c.number ≡ true) ⊎ (c.cursor < length b.log)

-- what is new in a log from a place on: its entries there, without what closes it; how many of its entries a cluster that lives follows; and whether it is over
pub record IsNews (system : System) (log : List Entry) (news : News) : Type 0 where
  pub within : news.from ≤ open_length log
  pub upto : news.upto ≡ followed_length system log
  pub entries : map arc_value (news.entries).items ≡ drop news.from (take (open_length log) log)
  pub over : news.is_over ≡ is_over system log
