-- No instruction but ECALL is a system call.
use Rattle.std.proofs.Common.{◌≡◌, ℕ, ◌%◌, Bool, true, false, cond, eqb, List, Option, Some, None, refl}
use Rattle.std.specs.Prelude.{ℤ}
use Rattle.rv_insn.specs.declared.Insn.{Insn}
use Rattle.rv_insn.specs.declared.Insn.TheVariants.{Lui, Auipc, Jal, Jalr, Beq, Bne, Blt, Bge, Bltu, Bgeu, Lb, Lh, Lw, Lbu, Lhu, Sb, Sh, Sw, Addi, Slti, Sltiu, Xori, Ori, Andi, Slli, Srli, Srai, Add, Sub, Sll, Slt, Sltu, Xor, Srl, Sra, Or, And, Fence, Ecall, Ebreak}
use Rattle.rv_mem.specs.declared.BadAddr.{BadAddr}
use Rattle.rv_mem.specs.declared.BadAddr.TheVariants.{Misaligned, OutOfRange}
use Rattle.t32_base.specs.Registers.{Registers}
use Rattle.rv_cpu.specs.Exec.{Steps, Traps, is_call, is_ecall, branches, exec_decoded, executed, plus, set_reg, to_target, unless_refused, word}

targets : (r : Registers) (m : List ℕ) (target : ℕ) → is_ecall None ≡ is_call (to_target r m target)
targets r m target = elim (eqb (target % 4) 0) as (λ b. false ≡ is_call (cond b (Steps (record r { pc = target }) m) (Traps 0))) [ true ↦ refl | false ↦ refl ]

branched : (r : Registers) (m : List ℕ) (taken : Bool) (imm : ℤ) → false ≡ is_call (branches r m taken imm)
branched r m true imm = targets r m (plus r.pc (word imm))
branched r m false imm = refl

accessed : (o : Option BadAddr) (misaligned outside : ℕ) (regs : Registers) (bytes : List ℕ) → false ≡ is_call (unless_refused o misaligned outside (Steps regs bytes))
accessed None misaligned outside regs bytes = refl
accessed (Some (Misaligned at)) misaligned outside regs bytes = refl
accessed (Some (OutOfRange at)) misaligned outside regs bytes = refl

called : (i : Insn) (r : Registers) (m : List ℕ) → is_ecall (Some i) ≡ is_call (executed i r m)
called (Lui rd imm) r m = refl
called (Auipc rd imm) r m = refl
called (Jal rd imm) r m = targets (set_reg r rd (plus r.pc 4)) m _
called (Jalr rd rs1 imm) r m = targets (set_reg r rd (plus r.pc 4)) m _
called (Beq rs1 rs2 imm) r m = branched r m _ imm
called (Bne rs1 rs2 imm) r m = branched r m _ imm
called (Blt rs1 rs2 imm) r m = branched r m _ imm
called (Bge rs1 rs2 imm) r m = branched r m _ imm
called (Bltu rs1 rs2 imm) r m = branched r m _ imm
called (Bgeu rs1 rs2 imm) r m = branched r m _ imm
called (Lb rd rs1 imm) r m = accessed _ 4 5 _ _
called (Lh rd rs1 imm) r m = accessed _ 4 5 _ _
called (Lw rd rs1 imm) r m = accessed _ 4 5 _ _
called (Lbu rd rs1 imm) r m = accessed _ 4 5 _ _
called (Lhu rd rs1 imm) r m = accessed _ 4 5 _ _
called (Sb rs1 rs2 imm) r m = accessed _ 6 7 _ _
called (Sh rs1 rs2 imm) r m = accessed _ 6 7 _ _
called (Sw rs1 rs2 imm) r m = accessed _ 6 7 _ _
called (Addi rd rs1 imm) r m = refl
called (Slti rd rs1 imm) r m = refl
called (Sltiu rd rs1 imm) r m = refl
called (Xori rd rs1 imm) r m = refl
called (Ori rd rs1 imm) r m = refl
called (Andi rd rs1 imm) r m = refl
called (Slli rd rs1 imm) r m = refl
called (Srli rd rs1 imm) r m = refl
called (Srai rd rs1 imm) r m = refl
called (Add rd rs1 rs2) r m = refl
called (Sub rd rs1 rs2) r m = refl
called (Sll rd rs1 rs2) r m = refl
called (Slt rd rs1 rs2) r m = refl
called (Sltu rd rs1 rs2) r m = refl
called (Xor rd rs1 rs2) r m = refl
called (Srl rd rs1 rs2) r m = refl
called (Sra rd rs1 rs2) r m = refl
called (Or rd rs1 rs2) r m = refl
called (And rd rs1 rs2) r m = refl
called Fence r m = refl
called Ecall r m = refl
called Ebreak r m = refl

pub decoded_calls : (o : Option Insn) (r : Registers) (m : List ℕ) → is_ecall o ≡ is_call (exec_decoded o r m)
decoded_calls None r m = refl
decoded_calls (Some i) r m = called i r m
