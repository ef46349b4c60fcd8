-- How the state of a process changes by a step, but for its memory and its mailbox.
use Rattle.std.specs.Prelude.{ℕ, ◌+◌, ◌-◌, ◌*◌, List, [], ◌∷◌, slice_set, Option, Some, None}
use Rattle.t32_base.specs.declared.process.Status.{Status}
use Rattle.t32_base.specs.declared.process.EndState.{EndState}
use Rattle.t32_base.specs.declared.process.EndState.TheVariants.{Never, Tty, Linked, Shut}
use Rattle.t32_base.specs.declared.letter.To.{To}
use Rattle.t32_base.specs.declared.letter.To.TheVariants.{Proc}
use Rattle.t32_base.specs.Registers.{Registers}
use Rattle.t32_base.specs.Small.{SmallState, steps_left}
use Rattle.rv_cpu.specs.Exec.{set_reg, onward}

-- a step is counted
abbrev pub stepped : SmallState → SmallState
stepped s = record s { steps = s.steps + 1 }

-- an instruction is spent, by a step
abbrev pub spent : SmallState → SmallState
spent s = record s { left = s.left - 1; steps = s.steps + 1 }

abbrev pub with_status : SmallState → Status → SmallState
with_status s status = record s { status = status }

abbrev pub with_regs : SmallState → Registers → SmallState
with_regs s regs = record s { regs = regs }

-- signals are handled at an address
abbrev pub with_handler : SmallState → ℕ → SmallState
with_handler s addr = record s { handler = addr }

-- the registers that the handler's return restores
abbrev pub with_frame : SmallState → Option Registers → SmallState
with_frame s frame = record s { frame = frame }

abbrev pub with_end : SmallState → ℕ → EndState → SmallState
with_end s i end = record s { ends = slice_set s.ends i end }

abbrev pub with_ends : SmallState → List EndState → SmallState
with_ends s ends = record s { ends = ends }

-- n instructions that step were spent, and left these registers
abbrev pub after_instructions : ℕ → SmallState → Registers → SmallState
after_instructions n s regs = record s { regs = regs; left = s.left - n; steps = s.steps + n }

-- the answer of a call is in a0, and the pc goes on
abbrev pub answered : SmallState → ℕ → SmallState
answered s v = with_regs s (onward (set_reg s.regs 10 v))

-- two answers, in a0 and a1
abbrev pub both_answered : SmallState → ℕ → ℕ → SmallState
both_answered s v w = with_regs s (onward (set_reg (set_reg s.regs 10 v) 11 w))

-- the lowest linked end from number i on, and where it leads
abbrev pub linked_from : ℕ → List EndState → Option (ℕ × To)
linked_from i [] = None
linked_from i (Never ∷ ends) = linked_from (i + 1) ends
linked_from i (Tty t ∷ ends) = linked_from (i + 1) ends
linked_from i (Linked peer far finished ∷ ends) = Some (i, Proc peer far)
linked_from i (Shut ∷ ends) = linked_from (i + 1) ends

abbrev pub lowest_linked : List EndState → Option (ℕ × To)
lowest_linked ends = linked_from 0 ends

-- the lowest linked end is shut, by a step
abbrev pub shut_at : Option (ℕ × To) → SmallState → SmallState
shut_at None s = s
shut_at (Some found) s = stepped (with_end s found.0 Shut)

-- at most so many steps are left: instructions, end letters, and the changes of status
abbrev pub weight : SmallState → ℕ
weight s = steps_left s.left s.ends s.status

-- the most steps that a process and the children that it may still fork can make: a child has 32 ends, and two changes of status to come
abbrev pub weight_with_children : SmallState → ℕ
weight_with_children s = weight s + s.births * (s.left + 34)
