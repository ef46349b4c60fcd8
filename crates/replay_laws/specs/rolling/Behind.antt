-- A process that rolls forward, beside the process in the kernel without failures.
use Rattle.std.specs.Prelude.{ℕ, ◌-◌, ◌≡◌, ◌≤◌, List, Some}
use Rattle.t32_base.specs.declared.process.Pid.{Pid}
use Rattle.t32_base.specs.declared.process.Counts.{Counts}
use Rattle.sys_text.specs.declared.system.System.{System}
use Rattle.proc_state.specs.State.{ProcState}
use Rattle.write_count.specs.Counting.{counts_of}
use Rattle.bus_msg.specs.declared.entry.Entry.{Entry}
use Rattle.roll_forward.specs.Deeds.{letters_in, births_in}
use Rattle.roll_forward.specs.RunsOut.{RunsOut}
use Rattle.roll_forward.specs.Replay.{replayed}
use Rattle.cert_sched.specs.Schedule.{done_after}
use Rattle.cert_sched.specs.Deeds.{start_of, since}
use Rattle.cert_sched.specs.Rolling.{refilled, RollsAs}

-- it has made no more steps than the process in the kernel
abbrev pub IsBehind : System → List Entry → Pid → ProcState → Type 0
IsBehind system log p s = (s.small).steps ≤ done_after system log p

-- It has done again a part of what it did since it started, and is not beyond where it was. Silent steps beyond would leave the first as it is.
pub record RollsBehind (system : System) (log : List Entry) (p : Pid) (s : ProcState) (counts : Counts) (births : List Pid) : Type 0 where
  pub rolls : RollsAs system log p s counts births
  pub behind : IsBehind system log p s

-- its counts and births run out after so many steps, which are no more than the process in the kernel has made more
pub record RunsAhead (system : System) (log : List Entry) (p : Pid) (s : ProcState) (counts : Counts) (births : List Pid) : Type 0 where
  pub ahead : ℕ
  pub runs_out : RunsOut s counts births ahead
  pub within : ahead ≤ done_after system log p - (s.small).steps

-- The process is just where its last deed since it started led it, or at its start where it has done none: the steps after which what it did since has run out lead there.
pub record EndsExactly (system : System) (log : List Entry) (p : Pid) (now : ProcState) : Type 0 where
  pub start : ProcState
  pub started : start_of system log p ≡ Some start
  pub ahead : ℕ
  pub runs_out : RunsOut (refilled log p start) (counts_of (letters_in (since log p))) (births_in (since log p)) ahead
  pub leads : replayed ahead (refilled log p start) (births_in (since log p)) ≡ Some (now, since log p)
