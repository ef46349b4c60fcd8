-- Which lines of letters may stand next.
use Rattle.std.specs.Prelude.{ℕ, ◌≡◌, ◌&&◌, Bool, Option, Some, None}
use Rattle.t32_base.specs.declared.letter.Letter.{Letter}
use Rattle.proc_state.specs.State.{ProcState}
use Rattle.sys_calls.specs.declared.steps.Emission.TheVariants.{Mail as Sent}
use Rattle.sys_calls.specs.Next.{last_emission}
use Rattle.bus_msg.specs.declared.entry.Entry.{Entry}
use Rattle.entry_lines.specs.declared.told.ToldLetter.{ToldLetter}
use Rattle.entry_lines.specs.declared.told.ToldWhat.TheVariants.{Mail as ToldMail}
use Rattle.log_audit.specs.Front.{FrontState}
use Rattle.log_processes.specs.declared.sender.Head.{Head}
use Rattle.log_processes.specs.declared.sender.Limits.{Limits}
use Rattle.log_processes.specs.declared.sender.Sender.{Sender}
use Rattle.log_processes.specs.Sending.{AnswersSent, is_within}
use Rattle.log_processes.specs.Telling.{is_letter_told}

-- the last of so many steps sends this letter, and those before it are silent; or there are no such steps
abbrev pub Writes : ℕ → ProcState → Option Letter → ProcState → Type 0
Writes n s (Some letter) t = last_emission n s ≡ Some (Sent letter, t)
Writes n s None t = (letter : Letter) (u : ProcState) → last_emission n s ≡ Some (Sent letter, u) → ⊥

-- a process may send this letter within its limits
abbrev pub letter_may : Limits → Sender → ProcState → ToldLetter → Letter → Bool
letter_may limits kept t told letter = is_letter_told told letter && is_within limits kept t

-- by these a line is answered right
abbrev pub AnswersLetter : FrontState → Limits → Head → Sender → ProcState → ToldLetter → Option Entry → Type 0
AnswersLetter front limits head kept s told result = AnswersSent front limits head kept s (ToldMail (head.pid).0 head.at told) result
