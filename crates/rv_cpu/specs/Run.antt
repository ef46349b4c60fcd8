-- Many instructions, one after another.
use Rattle.std.specs.Prelude.{◌≡◌, ℕ, zero, suc, Bool, List, Option, Some, None, option_and_then}
use Rattle.t32_base.specs.Registers.{Registers}
use Rattle.rv_mem.specs.Marks.{Memory}
use Rattle.rv_cpu.specs.Exec.{Executed, Steps, Calls, Traps, did_of, exec, exec_marks}
use Rattle.rv_cpu.specs.declared.Did.{Did}
use Rattle.rv_cpu.specs.declared.Did.TheVariants.{Stepped}

-- what an instruction works on: the registers, and the bytes of the memory with a mark for each page
pub record Machine : Type 0 where
  pub regs : Registers
  pub bytes : List ℕ
  pub dirty : List Bool

abbrev pub machine_of : Registers → Memory → Machine
machine_of regs memory = record { regs = regs; bytes = memory.bytes; dirty = memory.dirty }

-- what a step leaves, with the marks after it; a system call and a trap are no steps
abbrev pub stepped : Executed → List Bool → Option Machine
stepped (Steps regs bytes) dirty = Some (record { regs = regs; bytes = bytes; dirty = dirty })
stepped Calls dirty = None
stepped (Traps code) dirty = None

-- the machine after one instruction, where that is a step
unfoldable pub one : Machine → Option Machine
one m = stepped (exec m.regs m.bytes) (exec_marks m.regs m.bytes m.dirty)

-- the machine after so many instructions, where each of them is a step
unfoldable pub ran : ℕ → Machine → Option Machine
ran zero m = Some m
ran (suc n) m = option_and_then one (ran n m)

-- an instruction did this, which is no step
abbrev pub Stops : Executed → Did → Type 0
Stops e did = (did ≡ did_of e) × (did ≡ Stepped → ⊥)
