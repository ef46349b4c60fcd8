-- Which lines of exits may stand next.
use Rattle.std.specs.Prelude.{ℕ, ◌≡◌, ◌&&◌, Bool, not, Option, Some, None}
use Rattle.t32_base.specs.declared.process.End.{End}
use Rattle.proc_state.specs.State.{ProcState}
use Rattle.sys_calls.specs.declared.steps.Emission.TheVariants.{Exit as Ended}
use Rattle.sys_calls.specs.Next.{last_emission}
use Rattle.bus_msg.specs.declared.entry.Entry.{Entry}
use Rattle.entry_lines.specs.declared.told.ToldEnd.{ToldEnd}
use Rattle.entry_lines.specs.declared.told.ToldWhat.TheVariants.{Exit as ToldExit}
use Rattle.log_audit.specs.Front.{FrontState}
use Rattle.log_processes.specs.declared.sender.Head.{Head}
use Rattle.log_processes.specs.declared.sender.Limits.{Limits}
use Rattle.log_processes.specs.declared.sender.Sender.{Sender}
use Rattle.log_processes.specs.Sending.{AnswersSent, is_within}
use Rattle.log_processes.specs.Telling.{is_end_told}

-- the last of so many steps is this exit, and those before it are silent; or there are no such steps
abbrev pub Exits : ℕ → ProcState → Option End → ProcState → Type 0
Exits n s (Some end) t = last_emission n s ≡ Some (Ended end, t)
Exits n s None t = (end : End) (u : ProcState) → last_emission n s ≡ Some (Ended end, u) → ⊥

-- a process without a child that never synchronised may end so within its limits
abbrev pub exit_may : Limits → Sender → ProcState → ToldEnd → End → Bool
exit_may limits kept t told end = not kept.parent && is_end_told told end && is_within limits kept t

-- by these a line is answered right
abbrev pub AnswersExit : FrontState → Limits → Head → Sender → ProcState → ToldEnd → Option Entry → Type 0
AnswersExit front limits head kept s told result = AnswersSent front limits head kept s (ToldExit (head.pid).0 head.at told) result
