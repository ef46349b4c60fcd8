-- How a cluster is left when its life has ended: by the end of the run, or by its loss.
use Rattle.std.specs.Prelude.{ℕ, ◌≡◌, ◌+◌, ◌-◌, ◌≤◌, ◌<◌, ◌⊎◌, Bool, true, false, length, take, drop, slice_get, Some, None}
use Rattle.std.specs.List.{list_any, list_all}
use Rattle.std.specs.Option.{option_map_or}
use Rattle.t32_base.specs.declared.process.ClusterNo.{ClusterNo}
use Rattle.bus_msg.specs.declared.entry.What.{What}
use Rattle.bus_msg.specs.declared.entry.What.TheVariants.{Crash}
use Rattle.bus_msg.specs.declared.entry.Cause.{Cause}
use Rattle.bus_msg.specs.declared.entry.Cause.TheVariants.{Place, Step, Disk}
use Rattle.bus_msg.specs.declared.entry.Entry.{Entry}
use Rattle.bus_msg.specs.Places.{same_cluster}
use Rattle.bus_msg.specs.PlacedAfter.{what}
use Rattle.cert_sched.specs.Rules.{is_over}
use Rattle.cert_sched.specs.Losses.{capped, is_by_cluster, is_page_entry, least_calls, was_lost_in}
use Rattle.cluster_core.specs.View.{ClusterView, disk_calls}
use Rattle.cluster_core.specs.Follows.{Follows, StandsBetween}
use Rattle.bus_lock.specs.Lists.{is_author}
use Rattle.bus_order.specs.Log.{author_of}
use Rattle.bus_order.specs.Script.{is_uncalled, is_unpassed, off_at}
use Rattle.bus_order.specs.View.{BusView}
use Rattle.cluster_turns.specs.Disks.{HasFailed}
use Rattle.cluster_turns.specs.Ends.{is_cut_off}
use Rattle.cluster_core.specs.Known.{IsKnown}
use Rattle.cluster_turns.specs.Lives.{EndsBy, end_cause, end_of_life}

-- ---- what a cluster tells

-- the cluster added the entry: it sent it, or was lost by it at a step or a disk call
abbrev pub is_told_by : ClusterNo → Entry → Bool
is_told_by k e = is_author k.0 (author_of e)

-- a loss of the cluster at a step or a disk call
abbrev pub is_own_loss : ClusterNo → What → Bool
is_own_loss k (Crash j Place) = false
is_own_loss k (Crash j (Step n)) = same_cluster j k
is_own_loss k (Crash j (Disk n)) = same_cluster j k
is_own_loss k _ = false

-- ---- where it stands

-- it followed the log up to its cursor, and sent nothing that stands later
pub record StoodBeside (b : BusView) (c : ClusterView) : Type 0 where
  pub follows : Follows b.system (take c.cursor b.log) c
  pub sent_before : list_any (is_by_cluster c.number) (drop c.cursor b.log) ≡ false

-- it has sent the entry at its cursor and not taken that in, and sent nothing that stands later
pub record StoodBetween (b : BusView) (c : ClusterView) : Type 0 where
  pub entry : Entry
  pub there : slice_get b.log c.cursor ≡ Some entry
  pub between : StandsBetween Follows b.system (take c.cursor b.log) entry c
  pub sent_before : list_any (is_by_cluster c.number) (drop (c.cursor + 1) b.log) ≡ false

-- it has counted at least the disk calls that the log up to its cursor shows
abbrev pub HasCountedCalls : BusView → ClusterView → ℕ → Type 0
HasCountedCalls b c calls = capped (least_calls b.system (take c.cursor b.log) (take c.cursor b.log) c.number) ≤ calls

-- where its disk failed it sent nothing that stands later, and has sent nothing at all or counted its calls
pub record FailedBeside (b : BusView) (c : ClusterView) (call : ℕ) : Type 0 where
  pub sent_before : list_any (is_by_cluster c.number) (drop c.cursor b.log) ≡ false
  pub counted : (list_any (is_by_cluster c.number) (take c.cursor b.log) ≡ false) ⊎ HasCountedCalls b c call

-- where its disk failed it was to take in the entry at its cursor, a page that it had sent; it sent nothing that stands later, and has counted its calls
pub record FailedBetween (b : BusView) (c : ClusterView) (call : ℕ) : Type 0 where
  pub entry : Entry
  pub there : slice_get b.log c.cursor ≡ Some entry
  pub page : is_page_entry (what entry) ≡ true
  pub sent_before : list_any (is_by_cluster c.number) (drop (c.cursor + 1) b.log) ≡ false
  pub counted : HasCountedCalls b c call

-- a call of its disk failed, of one that was never lost before; it knows the placement and the children that never synchronised still
pub record StoodFailed (b : BusView) (c : ClusterView) : Type 0 where
  pub disk : HasFailed b.script c
  pub known : IsKnown b.system (take c.cursor b.log) c.places c.family
  pub first : was_lost_in (take c.cursor b.log) c.number ≡ false
  pub sent : FailedBeside b c disk.call ⊎ FailedBetween b c disk.call

-- no call of its disk failed, and it follows the log, or has just sent the entry that it takes in next; or one failed
abbrev pub Stands : BusView → ClusterView → Type 0
Stands b c = ((c.failed ≡ None) × (StoodBeside b c ⊎ StoodBetween b c)) ⊎ StoodFailed b c

-- A cluster before its next kernel step, or after the one in which its disk failed. What it has taken in goes on, and it is not off there, and was not lost at a step or a disk call from
-- there on, and it has passed no word for a step that gave no loss.
pub record IsBeforeStep (b : BusView) (c : ClusterView) : Type 0 where
  pub system : c.system ≡ b.system
  pub has : (c.number).0 < (b.system).clusters
  pub within : c.cursor ≤ length b.log
  pub goes_on : is_over b.system (take c.cursor b.log) ≡ false
  pub lives : off_at (take c.cursor b.log) c.number ≡ None
  pub stands : Stands b c
  pub kept : list_any (λ (e : Entry). is_own_loss c.number (what e)) (drop c.cursor b.log) ≡ false
  pub passed : list_all (is_unpassed c.number b.log c.steps) b.script ≡ true

-- by what it is lost then, where a word of the script names that: by the call of its disk that failed, or else by its next step
abbrev pub own_cause : ClusterView → Cause
own_cause c = option_map_or Disk c.failed (Step c.steps)

-- ---- how it was left

-- how it stood: it followed the log, or was cut off with an entry that it had sent and not taken in, or where its disk failed
abbrev pub StoodAs : BusView → ClusterView → Type 0
StoodAs b c = ((c.failed ≡ None) × (StoodBeside b c ⊎ ((is_cut_off c.number b.system b.log c.cursor ≡ true) × StoodBetween b c))) ⊎ ((is_cut_off c.number b.system b.log c.cursor ≡ true) × StoodFailed b c)

-- How a cluster of the bus was left when its life had ended: it was not off where it had come to, and was cut off behind that, as the log tells, or it followed the log up to its last entry. It has passed no word
-- for a step or a disk call that gave no loss.
pub record LeftAs (b : BusView) (c : ClusterView) : Type 0 where
  pub system : c.system ≡ b.system
  pub lives : off_at (take c.cursor b.log) c.number ≡ None
  pub within : c.cursor ≤ end_of_life b.log c.number c.cursor
  pub followed : StoodAs b c
  pub to_the_end : is_cut_off c.number b.system b.log c.cursor ≡ false → c.cursor ≡ length b.log - 1
  pub lost_by : EndsBy (end_cause b.log c.number c.cursor) c
  pub passed : list_all (is_unpassed c.number b.log c.steps) b.script ≡ true
  pub uncalled : is_cut_off c.number b.system b.log c.cursor ≡ false → list_all (is_uncalled c.number (disk_calls c)) b.script ≡ true

-- a cluster that was cut off, and has stopped
pub record IsGone (b : BusView) (c : ClusterView) : Type 0 where
  pub lost : is_cut_off c.number b.system b.log c.cursor ≡ true
  pub left : LeftAs b c
