-- What the loss of another cluster makes of the records and the processes here.
use Rattle.std.specs.Prelude.{◌≡◌, ◌≤◌, true, false, List, [], fold, filter, Some, is_some}
use Rattle.std.specs.List.{list_any}
use Rattle.t32_base.specs.declared.process.Pid.{Pid}
use Rattle.t32_base.specs.declared.process.ClusterNo.{ClusterNo}
use Rattle.t32_base.specs.declared.letter.BackRec.{BackRec}
use Rattle.bus_msg.specs.declared.entry.What.{What}
use Rattle.bus_msg.specs.declared.entry.What.TheVariants.{Crash}
use Rattle.bus_msg.specs.Places.{Places, same_pid}
use Rattle.crash_notice.specs.Splitting.{moves_here, stays}
use Rattle.backup_records.specs.Records.{record_in}
use Rattle.page_waits.specs.Waiting.{page_count}
use Rattle.replay_laws.specs.pages.Waits.{first_wait}
use Rattle.residents.specs.Held.{Held, Waits}
use Rattle.residents.specs.Changed.{with_more}

-- the records that leave at an entry, by the places before it: at a loss, those of the processes that it moves here
abbrev pub moved_by : Places → ClusterNo → What → List BackRec → List BackRec
moved_by before here (Crash lost cause) recs = filter (moves_here before lost here) recs
moved_by before here w recs = []

-- the records that are left then
abbrev pub left_by : Places → ClusterNo → What → List BackRec → List BackRec
left_by before here (Crash lost cause) recs = filter (stays before lost here) recs
left_by before here w recs = recs

-- the process of a record is here too: it waits for its pages, of which none was asked for, or for its parent's fork where the record has no state
abbrev pub with_waiting : List (Pid × Held) → BackRec → List (Pid × Held)
with_waiting here r = with_more r.pid (Waits (first_wait r)) here

-- so are those of all these records
abbrev pub with_all_waiting : List BackRec → List (Pid × Held) → List (Pid × Held)
with_all_waiting moved here = fold with_waiting here moved

-- each process of which there is a record among these has 1 to 256 pages, or none where the record has no state, and is not here already
abbrev pub CanWait : List BackRec → List (Pid × Held) → Type 0
CanWait moved here = (p : Pid) (r : BackRec) → record_in moved p ≡ Some r → (is_some r.state ≡ true → 1 ≤ page_count r) × (page_count r ≤ 256) × (list_any (λ (e : Pid × Held). same_pid e.0 p) here ≡ false)
