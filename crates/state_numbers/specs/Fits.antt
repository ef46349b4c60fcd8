-- The numbers of a process have 32 bits, and its bytes eight.
use Rattle.std.specs.Prelude.{ℕ, ◌<◌, ◌≤◌, ◌^◌, List, [], ◌∷◌, length, Option, Some, None, ⊤}
use Rattle.t32_base.specs.declared.process.End.{End}
use Rattle.t32_base.specs.declared.process.End.TheVariants.{Exit, Trap, Killed, Limit}
use Rattle.t32_base.specs.declared.process.Status.{Status}
use Rattle.t32_base.specs.declared.process.Status.TheVariants.{Live, Closing, Ended}
use Rattle.t32_base.specs.declared.process.EndState.{EndState}
use Rattle.t32_base.specs.declared.process.EndState.TheVariants.{Never, Tty, Linked, Shut}
use Rattle.t32_base.specs.declared.letter.Letter.{Letter}
use Rattle.t32_base.specs.declared.letter.Arrived.{Arrived}
use Rattle.t32_base.specs.declared.letter.Body.{Body}
use Rattle.t32_base.specs.declared.letter.Body.TheVariants.{Said, EndOf, Signal}
use Rattle.t32_base.specs.declared.letter.To.{To}
use Rattle.t32_base.specs.declared.letter.To.TheVariants.{Proc, Tty as ToTty}
use Rattle.t32_base.specs.Registers.{Registers}
use Rattle.proc_state.specs.State.{ProcState}
use Rattle.sys_calls.specs.declared.steps.Emission.{Emission}
use Rattle.sys_calls.specs.declared.steps.Emission.TheVariants.{Mail, Exit as Exits}
use Rattle.sys_calls.specs.Calls.{Next, Silent, Blocked, Forks, Emits, Over}

-- ---- letters, and how a process ends

-- each number is below a bound
abbrev pub AllBelow : ℕ → List ℕ → Type 0
AllBelow bound [] = ⊤
AllBelow bound (n ∷ ns) = (n < bound) × AllBelow bound ns

abbrev pub IsWord : ℕ → Type 0
IsWord n = n < 2 ^ 32

abbrev pub AreBytes : List ℕ → Type 0
AreBytes bytes = AllBelow 256 bytes

abbrev pub ToFits : To → Type 0
ToFits (Proc p e) = IsWord p.0 × IsWord e
ToFits (ToTty t) = IsWord t

abbrev pub BodyFits : Body → Type 0
BodyFits (Said bytes) = AreBytes bytes
BodyFits EndOf = ⊤
BodyFits (Signal g) = IsWord g

pub record LetterFits (letter : Letter) : Type 0 where
  pub from : IsWord (letter.from).0
  pub out : IsWord letter.out
  pub to : ToFits letter.to
  pub body : BodyFits letter.body

abbrev pub EndFits : End → Type 0
EndFits (Exit status) = IsWord status
EndFits (Trap code) = IsWord code
EndFits (Killed signal) = IsWord signal
EndFits Limit = ⊤

abbrev pub EmissionFits : Emission → Type 0
EmissionFits (Mail letter) = LetterFits letter
EmissionFits (Exits end) = EndFits end

-- ---- a process

abbrev pub StatusFits : Status → Type 0
StatusFits Live = ⊤
StatusFits (Closing end) = EndFits end
StatusFits (Ended end) = EndFits end

abbrev pub LinkFits : EndState → Type 0
LinkFits Never = ⊤
LinkFits (Tty t) = IsWord t
LinkFits (Linked peer far finished) = IsWord peer.0 × IsWord far
LinkFits Shut = ⊤

abbrev pub LinksFit : List EndState → Type 0
LinksFit [] = ⊤
LinksFit (end ∷ ends) = LinkFits end × LinksFit ends

abbrev pub FrameFits : Option Registers → Type 0
FrameFits None = ⊤
FrameFits (Some regs) = AllBelow (2 ^ 32) regs.x

abbrev pub MailFits : List Arrived → Type 0
MailFits [] = ⊤
MailFits (a ∷ mail) = LetterFits a.letter × MailFits mail

-- Its pid, its pages, its registers and those of its frame, the numbers in its ends, of which there are no more than 32, and how it ended have
-- 32 bits; the bytes of its memory have eight; and so it is with the letters in its mailbox.
pub record StateFits (s : ProcState) : Type 0 where
  pub pid : IsWord ((s.small).pid).0
  pub pages : IsWord (s.small).pages
  pub regs : AllBelow (2 ^ 32) ((s.small).regs).x
  pub frame : FrameFits (s.small).frame
  pub ends : LinksFit (s.small).ends
  pub few : length (s.small).ends ≤ 32
  pub status : StatusFits (s.small).status
  pub memory : AreBytes s.memory
  pub mail : MailFits s.mail

-- so it is after a step, and with what that sends
abbrev pub NextFits : Next → Type 0
NextFits (Silent t) = StateFits t
NextFits Blocked = ⊤
NextFits Forks = ⊤
NextFits (Emits e t) = EmissionFits e × StateFits t
NextFits Over = ⊤
