use Rattle.std.proofs.Common.{rules, ◌≡◌, ◌+◌, ◌*◌, ◌/◌, ◌%◌, ◌∙◌, ℕ, Some, sym, ap, refl, w32, to_z, of_z, arith}
use Rattle.rv_insn.specs.declared.Insn.TheVariants.{Auipc, Jal, Jalr, Beq, Bne, Blt, Bge, Bltu, Bgeu, Lb, Lh, Lw, Lbu, Lhu, Sb, Sh, Sw, Addi, Slti, Sltiu, Xori, Ori, Andi}
use Rattle.rv_insn.specs.Word.{rd, funct7, imm_u, imm_j}
use Rattle.rv_insn.specs.Table.{picked}
use Rattle.rv_insn.specs.Keys.{key_at}
use Rattle.rv_insn.proofs.Arms.{arm_i, arm_s, arm_b}
use Rattle.rv_insn.proofs.row_at.Goals as goal

-- a row that is told by its opcode takes a word with any funct3
auipc_at : (key word : ℕ) → key % 32 * 4 + 3 + key / 256 * 128 ≡ 0x17 → picked (key_at key word) word ≡ Some (Auipc (rd word) (imm_u word))
auipc_at key word h = ap (λ (k : ℕ). picked (record { opcode = k; funct3 = key / 32; funct7 = funct7 word; word = word }) word) h

jal_at : (key word : ℕ) → key % 32 * 4 + 3 + key / 256 * 128 ≡ 0x6f → picked (key_at key word) word ≡ Some (Jal (rd word) (imm_j word))
jal_at key word h = ap (λ (k : ℕ). picked (record { opcode = k; funct3 = key / 32; funct7 = funct7 word; word = word }) word) h

pub returns-in-5 : goal.returns-in-5
returns-in-5 c =
    let at : c.args.key % 32 * 4 + 3 + c.args.key / 256 * 128 ≡ 0x17 = omega (arith, c.in-5.is) in
    let same : Some (Auipc c.rd-in-5.result (to_z w32 (of_z w32 c.imm_u-in-5.result))) ≡ Some (Auipc (rd c.args.word) (imm_u c.args.word)) = search rules in
    same ∙ sym (auipc_at c.args.key c.args.word at)

pub returns-in-27 : goal.returns-in-27
returns-in-27 c =
    let at : c.args.key % 32 * 4 + 3 + c.args.key / 256 * 128 ≡ 0x6f = omega (arith, c.in-27.is) in
    let same : Some (Jal c.rd-in-27.result (to_z w32 (of_z w32 c.imm_j.result))) ≡ Some (Jal (rd c.args.word) (imm_j c.args.word)) = search rules in
    same ∙ sym (jal_at c.args.key c.args.word at)

-- a row that is told by its opcode and funct3
pub returns-in-25 : goal.returns-in-25
returns-in-25 c = arm_i Jalr 25 c.args.key c.args.word _ _ _ c.in-25.is c.rd-in-25.ensures c.rs1.ensures c.imm_i.ensures refl

pub returns-in-24 : goal.returns-in-24
returns-in-24 c = arm_b Beq 24 c.args.key c.args.word _ _ _ c.in-24.is c.rs1-in-24.ensures c.rs2.ensures c.imm_b.ensures refl

pub returns-in-56 : goal.returns-in-56
returns-in-56 c = arm_b Bne 56 c.args.key c.args.word _ _ _ c.in-56.is c.rs1-in-56.ensures c.rs2-in-56.ensures c.imm_b-in-56.ensures refl

pub returns-in-152 : goal.returns-in-152
returns-in-152 c = arm_b Blt 152 c.args.key c.args.word _ _ _ c.in-152.is c.rs1-in-152.ensures c.rs2-in-152.ensures c.imm_b-in-152.ensures refl

pub returns-in-184 : goal.returns-in-184
returns-in-184 c = arm_b Bge 184 c.args.key c.args.word _ _ _ c.in-184.is c.rs1-in-184.ensures c.rs2-in-184.ensures c.imm_b-in-184.ensures refl

pub returns-in-216 : goal.returns-in-216
returns-in-216 c = arm_b Bltu 216 c.args.key c.args.word _ _ _ c.in-216.is c.rs1-in-216.ensures c.rs2-in-216.ensures c.imm_b-in-216.ensures refl

pub returns-in-248 : goal.returns-in-248
returns-in-248 c = arm_b Bgeu 248 c.args.key c.args.word _ _ _ c.in-248.is c.rs1-in-248.ensures c.rs2-in-248.ensures c.imm_b-in-248.ensures refl

pub returns-in-0 : goal.returns-in-0
returns-in-0 c = arm_i Lb 0 c.args.key c.args.word _ _ _ c.in-0.is c.rd-in-0.ensures c.rs1-in-0.ensures c.imm_i-in-0.ensures refl

pub returns-in-32 : goal.returns-in-32
returns-in-32 c = arm_i Lh 32 c.args.key c.args.word _ _ _ c.in-32.is c.rd-in-32.ensures c.rs1-in-32.ensures c.imm_i-in-32.ensures refl

pub returns-in-64 : goal.returns-in-64
returns-in-64 c = arm_i Lw 64 c.args.key c.args.word _ _ _ c.in-64.is c.rd-in-64.ensures c.rs1-in-64.ensures c.imm_i-in-64.ensures refl

pub returns-in-128 : goal.returns-in-128
returns-in-128 c = arm_i Lbu 128 c.args.key c.args.word _ _ _ c.in-128.is c.rd-in-128.ensures c.rs1-in-128.ensures c.imm_i-in-128.ensures refl

pub returns-in-160 : goal.returns-in-160
returns-in-160 c = arm_i Lhu 160 c.args.key c.args.word _ _ _ c.in-160.is c.rd-in-160.ensures c.rs1-in-160.ensures c.imm_i-in-160.ensures refl

pub returns-in-8 : goal.returns-in-8
returns-in-8 c = arm_s Sb 8 c.args.key c.args.word _ _ _ c.in-8.is c.rs1-in-8.ensures c.rs2-in-8.ensures c.imm_s.ensures refl

pub returns-in-40 : goal.returns-in-40
returns-in-40 c = arm_s Sh 40 c.args.key c.args.word _ _ _ c.in-40.is c.rs1-in-40.ensures c.rs2-in-40.ensures c.imm_s-in-40.ensures refl

pub returns-in-72 : goal.returns-in-72
returns-in-72 c = arm_s Sw 72 c.args.key c.args.word _ _ _ c.in-72.is c.rs1-in-72.ensures c.rs2-in-72.ensures c.imm_s-in-72.ensures refl

pub returns-in-4 : goal.returns-in-4
returns-in-4 c = arm_i Addi 4 c.args.key c.args.word _ _ _ c.in-4.is c.rd-in-4.ensures c.rs1-in-4.ensures c.imm_i-in-4.ensures refl

pub returns-in-68 : goal.returns-in-68
returns-in-68 c = arm_i Slti 68 c.args.key c.args.word _ _ _ c.in-68.is c.rd-in-68.ensures c.rs1-in-68.ensures c.imm_i-in-68.ensures refl

pub returns-in-100 : goal.returns-in-100
returns-in-100 c = arm_i Sltiu 100 c.args.key c.args.word _ _ _ c.in-100.is c.rd-in-100.ensures c.rs1-in-100.ensures c.imm_i-in-100.ensures refl

pub returns-in-132 : goal.returns-in-132
returns-in-132 c = arm_i Xori 132 c.args.key c.args.word _ _ _ c.in-132.is c.rd-in-132.ensures c.rs1-in-132.ensures c.imm_i-in-132.ensures refl

pub returns-in-196 : goal.returns-in-196
returns-in-196 c = arm_i Ori 196 c.args.key c.args.word _ _ _ c.in-196.is c.rd-in-196.ensures c.rs1-in-196.ensures c.imm_i-in-196.ensures refl

pub returns-in-228 : goal.returns-in-228
returns-in-228 c = arm_i Andi 228 c.args.key c.args.word _ _ _ c.in-228.is c.rd-in-228.ensures c.rs1-in-228.ensures c.imm_i-in-228.ensures refl
