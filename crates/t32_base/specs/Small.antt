-- A process but for its memory and its mailbox, as contracts see it.
use Rattle.std.specs.Prelude.{ℕ, ◌+◌, ◌^◌, ◌<◌, Bool, true, false, List, count_by, Option}
use Rattle.t32_base.specs.declared.process.Pid.{Pid}
use Rattle.t32_base.specs.declared.process.Status.{Status}
use Rattle.t32_base.specs.declared.process.Status.TheVariants.{Live, Closing, Ended}
use Rattle.t32_base.specs.declared.process.EndState.{EndState}
use Rattle.t32_base.specs.declared.process.EndState.TheVariants.{Never, Tty, Linked, Shut}
use Rattle.t32_base.specs.Registers.{Registers}

pub record SmallState : Type 0 where
  pub pid : Pid
  pub regs : Registers
  pub ends : List EndState
  pub handler : ℕ
  pub frame : Option Registers
  pub left : ℕ
  pub steps : ℕ
  pub births : ℕ
  pub status : Status
  pub pages : ℕ

-- how many changes of status are left
abbrev pub stages : Status → ℕ
stages Live = 2
stages (Closing e) = 1
stages (Ended e) = 0

abbrev pub is_unshut : EndState → Bool
is_unshut Never = true
is_unshut (Tty t) = true
is_unshut (Linked peer far finished) = true
is_unshut Shut = false

-- what steps use up: an instruction, an end that is not shut, or a change of status
abbrev pub steps_left : ℕ → List EndState → Status → ℕ
steps_left left ends status = left + count_by is_unshut ends + stages status

-- so the count of steps never reaches 2 ^ 64
abbrev pub IsBounded : ℕ → ℕ → List EndState → Status → Type 0
IsBounded steps left ends status = steps + steps_left left ends status < 2 ^ 64
