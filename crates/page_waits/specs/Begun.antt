-- How a process that a loss moved begins again from its record.
use Rattle.std.specs.Prelude.{ℕ, ◌≡◌, false, [], replicate, Some}
use Rattle.t32_base.specs.declared.letter.BackRec.{BackRec}
use Rattle.proc_state.specs.State.{ProcState}
use Rattle.roll_forward.specs.Rolling.{CanRoll, RollingState, ahead_of, all_left, with_saved}

abbrev pub number_of : BackRec → ℕ
number_of r = (r.pid).0

-- a process that starts so begins again: no page of its memory is marked, the saved letters are in its mailbox, and what the record counts is to be withheld
abbrev pub begun : ProcState → BackRec → RollingState
begun start r = record {
  process = record {
    small = start.small;
    ram = record { bytes = start.memory; dirty = replicate (start.small).pages false };
    mail = record { letters = r.saved; next = r.next };
    read = [];
    since = (start.small).steps;
  };
  counts = r.counts;
  births = r.births;
  ahead = ahead_of (with_saved start r.saved r.next) r.counts r.births;
  recorded = all_left r.counts r.births;
}

-- a record is that of a process which starts so: it has its state, and what it counts runs out
pub record BeginsFrom (start : ProcState) (r : BackRec) : Type 0 where
  pub state : r.state ≡ Some start.small
  pub rolls : CanRoll (with_saved start r.saved r.next) r.counts r.births
