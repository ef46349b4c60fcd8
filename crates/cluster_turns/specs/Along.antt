-- A cluster along the bus that it follows.
use Rattle.std.specs.Prelude.{ℕ, ◌≡◌, ◌≤◌, ◌<◌, ◌⊎◌, ◌^◌, ◌-◌, ◌+◌, Bool, false, true, ◌||◌, List, [], length, take, drop, slice_get, min, Some, None}
use Rattle.std.specs.List.{list_all, list_any, position_or_len}
use Rattle.t32_base.specs.declared.process.ClusterNo.{ClusterNo}
use Rattle.sys_text.specs.declared.system.System.{System}
use Rattle.sys_text.specs.Valid.{is_system}
use Rattle.bus_msg.specs.declared.entry.Cause.{Cause}
use Rattle.bus_msg.specs.declared.entry.Cause.TheVariants.{Disk, Place, Step}
use Rattle.bus_msg.specs.declared.entry.Entry.{Entry}
use Rattle.bus_msg.specs.PlacedAfter.{what}
use Rattle.cert_sched.specs.Rules.{is_over}
use Rattle.cert_sched.specs.Legal.{IsLegalBy, MayStand}
use Rattle.cert_sched.specs.declared.script.ScriptWord.{ScriptWord}
use Rattle.cert_sched.specs.Losses.{has_disk_left, has_step_left, is_crash_of, is_page_entry, was_lost_in, is_loss_word}
use Rattle.cert_sched.specs.Scripted.{is_closed, is_finished}
use Rattle.cluster_core.specs.View.{ClusterView, failing_in, with_server}
use Rattle.script_laws.specs.Off.{has_returned_in}
use Rattle.cluster_core.specs.Follows.{Follows}
use Rattle.cluster_core.specs.Calls.{Absorbs, FailsBy, ReadyFor, absorbed}
use Rattle.bus_order.specs.Log.{open_length}
use Rattle.bus_order.specs.Script.{is_unpassed, off_at}
use Rattle.bus_order.specs.View.{BusView}
use Rattle.cluster_turns.specs.Disks.{HasFailed, IsDiskOf}
use Rattle.cluster_turns.specs.Ends.{followed_length}
use Rattle.cluster_turns.specs.Gone.{IsBeforeStep, IsGone, is_told_by, own_cause}
use Rattle.cluster_turns.specs.Lives.{end_of_life}

-- how far a cluster follows a log that has come up to a place: up to its next loss, or else all of it, but the last entry where the log is over
abbrev pub upto : ClusterNo → System → List Entry → (cursor : ℕ) → ℕ
upto k system log cursor = min (cursor + position_or_len (λ (e : Entry). is_crash_of k (what e)) (drop cursor log)) (followed_length system log)

-- a cluster that has come up to a place has done with a log that is over, and with one in which it was lost from there on
abbrev pub is_done_with : ClusterNo → System → List Entry → (cursor : ℕ) → Bool
is_done_with k system log cursor = is_over system log || was_lost_in (drop cursor log) k

-- the script has more words for this loss of the cluster, at a step or at a disk call, than the log has such losses
abbrev pub is_left : List ScriptWord → List Entry → ClusterNo → Cause → Bool
is_left script log k Place = false
is_left script log k (Step n) = has_step_left script log k n
is_left script log k (Disk n) = has_disk_left script log k n

-- A cluster follows a log up to its cursor, where the log goes on and the cluster is not off, and has added nothing that stands later.
pub record IsBeside (log : List Entry) (c : ClusterView) : Type 0 where
  pub has : (c.number).0 < (c.system).clusters
  pub within : c.cursor ≤ length log
  pub goes_on : is_over c.system (take c.cursor log) ≡ false
  pub lives : off_at (take c.cursor log) c.number ≡ None
  pub follows : Follows c.system (take c.cursor log) c
  pub told_before : list_any (is_told_by c.number) (drop c.cursor log) ≡ false
  pub unfailed : c.failed ≡ None

-- The log is legal, a u64 holds its length, and by words for losses alone no cluster returns.
pub record IsSound (b : BusView) : Type 0 where
  pub valid : is_system b.system ≡ true
  pub legal : IsLegalBy MayStand b.system b.log
  pub unreturned : list_all is_loss_word b.script ≡ true → (k : ClusterNo) → has_returned_in b.log k ≡ false
  pub fits : length b.log < 2 ^ 64

-- a cluster of the bus's system beside its log, which has passed no word for a step that gave no loss
pub record IsAlong (b : BusView) (c : ClusterView) : Type 0 where
  pub system : c.system ≡ b.system
  pub beside : IsBeside b.log c
  pub passed : list_all (is_unpassed c.number b.log c.steps) b.script ≡ true
  pub disk : IsDiskOf b.script b.log c

-- a word of the script that gave no loss yet names the call of its disk that failed, or else its next kernel step, whose count does not stand still yet
pub record IsNamed (b : BusView) (c : ClusterView) : Type 0 where
  pub named : is_left b.script b.log c.number (own_cause c) ≡ true
  pub fits : c.failed ≡ None → c.steps < 2 ^ 64 - 1

-- none names its next step, or the count stands still
abbrev pub IsUnnamed : BusView → ClusterView → Type 0
IsUnnamed b c = (has_step_left b.script b.log c.number c.steps ≡ false) ⊎ (2 ^ 64 - 1 ≤ c.steps)

-- its disk failed, and it was not lost by that yet
pub record IsFailed (b : BusView) (c : ClusterView) : Type 0 where
  pub before : IsBeforeStep b c
  pub disk : HasFailed b.script c

-- the cluster was lost at its next step, or at a place that it had not taken in, or the run has ended by a loss that is not covered; it has stopped, and has told nothing behind that
pub record IsStopped (b : BusView) (c : ClusterView) : Type 0 where
  pub sound : IsSound b
  pub gone : IsGone b c
  pub quiet : list_any (is_told_by c.number) (drop (end_of_life b.log c.number c.cursor + 1) b.log) ≡ false

-- the cluster with a number, which follows the bus, has failed or has stopped, and has nothing to send where the log goes on and it lives
pub record IsMember (b : BusView) (n : ℕ) (c : ClusterView) : Type 0 where
  pub number : (c.number).0 ≡ n
  pub along : IsAlong b c ⊎ IsStopped b c ⊎ IsFailed b c
  pub empty : is_over b.system b.log ≡ false → was_lost_in (drop c.cursor b.log) c.number ≡ false → c.queue ≡ []

-- the clusters of the bus's system, each at the place of its number
pub record AllAlong (b : BusView) (cs : List ClusterView) : Type 0 where
  pub each : length cs ≡ (b.system).clusters
  pub members : (n : ℕ) (c : ClusterView) → slice_get cs n ≡ Some c → IsMember b n c

-- A bus that is in the hands of one thread: it is sound, it has a place for the mark of each cluster, and what closes its log is the end and no stop.
pub record IsOwned (b : BusView) : Type 0 where
  pub sound : IsSound b
  pub marks : length b.marks ≡ (b.system).clusters
  pub unstopped : is_closed b.log ≡ true → is_finished b.log ≡ true

-- the same cluster of the same system
pub record IsSame (old new : ClusterView) : Type 0 where
  pub system : new.system ≡ old.system
  pub number : new.number ≡ old.number

-- in a log the cluster has come from one place on to another, and was not lost between
pub record StaysAlive (k : ClusterNo) (log : List Entry) (from upto : ℕ) : Type 0 where
  pub order : from ≤ upto
  pub before : upto ≤ from + position_or_len (λ (e : Entry). is_crash_of k (what e)) (drop from log)

-- the cluster is ready for the entry at its cursor
pub record IsReadyAt (log : List Entry) (c : ClusterView) : Type 0 where
  pub within : c.cursor < upto c.number c.system log c.cursor
  pub open_there : c.cursor < open_length log
  pub ready : (e : Entry) → slice_get log c.cursor ≡ Some e → ReadyFor e c

-- it took that entry in
pub record TakesNext (log : List Entry) (old new : ClusterView) : Type 0 where
  pub entry : Entry
  pub there : slice_get log old.cursor ≡ Some entry
  pub taken : new ≡ with_server new.server (absorbed old entry)
  pub follows : Absorbs entry old new
  pub disk : failing_in new.server ≡ failing_in old.server

-- a call of its disk failed as it was to take that entry in, which brings a page
pub record FailsAtNext (log : List Entry) (old new : ClusterView) : Type 0 where
  pub entry : Entry
  pub there : slice_get log old.cursor ≡ Some entry
  pub page : is_page_entry (what entry) ≡ true
  pub call : ℕ
  pub fails : FailsBy call old new

-- it has taken in some of the log, none of which loses it, and changed in nothing else that matters, but that a post of its queue may have fallen; or it is as it was
pub record TakesIn (b : BusView) (old new : ClusterView) : Type 0 where
  pub same : IsSame old new
  pub along : IsAlong b new
  pub queue : old.queue ≡ [] → new.queue ≡ []
  pub stays : StaysAlive old.number b.log old.cursor new.cursor
  pub some : (old.cursor < new.cursor) ⊎ (new ≡ old)

-- What a port shows from a place on is its bus, which is sound, and a cluster that has not passed that place is along it.
pub record IsShown (Shows : Type 0) (from : ℕ) (b : BusView) (c : ClusterView) : Type 0 where
  pub shows : Shows
  pub from_there : from ≤ c.cursor
  pub sound : IsSound b
  pub along : IsAlong b c

-- the same of one whose turn it is, or its disk failed
abbrev pub IsDue : Type 0 → ℕ → BusView → ClusterView → Type 0
IsDue Shows from b c = IsShown Shows from b c ⊎ (IsSound b × IsFailed b c)

-- what the port shows is its bus, and the cluster has seen all of a log that goes on
pub record IsPosting (Shows : Type 0) (from : ℕ) (b : BusView) (c : ClusterView) : Type 0 where
  pub shown : IsShown Shows from b c
  pub seen : c.cursor ≡ length b.log
  pub goes_on : is_over b.system b.log ≡ false

-- the cluster has taken in all that its port shows
pub record HasTaken (Shows : Type 0) (from : ℕ) (b : BusView) (old new : ClusterView) : Type 0 where
  pub shown : IsShown Shows from b new
  pub taken : TakesIn b old new
  pub caught : new.cursor ≡ upto new.number b.system b.log new.cursor
