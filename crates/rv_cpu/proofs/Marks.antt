-- An instruction keeps the number of marks.
use Rattle.std.proofs.Common.{◌≡◌, ℕ, Bool, List, length, Option, Some, None, refl}
use Rattle.t32_base.specs.Registers.{Registers}
use Rattle.rv_mem.proofs.MarkLemmas.{length-touched}
use Rattle.rv_insn.specs.declared.Insn.{Insn}
use Rattle.rv_insn.specs.declared.Insn.TheVariants.{Sb, Sh, Sw}
use Rattle.rv_insn.specs.Table.{decoded}
use Rattle.rv_cpu.specs.Exec.{Executed, Steps, Calls, Traps, exec_marks, executed, fetched, marks_after, marks_decoded, marks_fetched, plus, reg, touched_by, word}

touched_keeps : (i : Insn) (regs : Registers) (dirty : List Bool) → length (touched_by i regs dirty) ≡ length dirty
touched_keeps (Sb rs1 rs2 imm) regs dirty = length-touched dirty (plus (reg regs rs1) (word imm)) 1
touched_keeps (Sh rs1 rs2 imm) regs dirty = length-touched dirty (plus (reg regs rs1) (word imm)) 2
touched_keeps (Sw rs1 rs2 imm) regs dirty = length-touched dirty (plus (reg regs rs1) (word imm)) 4
touched_keeps _ regs dirty = refl

after_keeps : (e : Executed) (i : Insn) (regs : Registers) (dirty : List Bool) → length (marks_after e i regs dirty) ≡ length dirty
after_keeps (Steps r m) i regs dirty = touched_keeps i regs dirty
after_keeps Calls i regs dirty = refl
after_keeps (Traps code) i regs dirty = refl

decoded_keeps : (o : Option Insn) (regs : Registers) (bytes : List ℕ) (dirty : List Bool) → length (marks_decoded o regs bytes dirty) ≡ length dirty
decoded_keeps None regs bytes dirty = refl
decoded_keeps (Some i) regs bytes dirty = after_keeps (executed i regs bytes) i regs dirty

fetched_keeps : (o : Option ℕ) (regs : Registers) (bytes : List ℕ) (dirty : List Bool) → length (marks_fetched o regs bytes dirty) ≡ length dirty
fetched_keeps None regs bytes dirty = refl
fetched_keeps (Some w) regs bytes dirty = decoded_keeps (decoded w) regs bytes dirty

-- one instruction
pub length-exec_marks : (regs : Registers) (bytes : List ℕ) (dirty : List Bool) → length (exec_marks regs bytes dirty) ≡ length dirty
length-exec_marks regs bytes dirty = fetched_keeps (fetched regs bytes) regs bytes dirty

-- what follows the decoder
pub length-marks_after : (e : Executed) (i : Insn) (regs : Registers) (dirty : List Bool) → length (marks_after e i regs dirty) ≡ length dirty
length-marks_after e i regs dirty = after_keeps e i regs dirty
