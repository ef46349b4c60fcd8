-- The instructions of a statement, from its fields.
use Rattle.std.specs.Prelude.{ℕ, ◌+◌, ◌*◌, ◌/◌, ◌%◌, ◌^◌, ℤ}
use Rattle.rv_insn.specs.declared.Insn.{Insn}
use Rattle.rv_insn.specs.declared.Insn.TheVariants as insn
use Rattle.rv_insn.specs.Word.{sign_extended}
use Rattle.rv_insn.specs.Encoding.{encoded}
use Rattle.rv_asm.specs.declared.form.RegisterInsn.{RegisterInsn}
use Rattle.rv_asm.specs.declared.form.RegisterInsn.TheVariants.{Add, Sub, Sll, Slt, Sltu, Xor, Srl, Sra, Or, And}
use Rattle.rv_asm.specs.declared.form.NumberInsn.{NumberInsn}
use Rattle.rv_asm.specs.declared.form.NumberInsn.TheVariants.{Addi, Slti, Sltiu, Xori, Ori, Andi}
use Rattle.rv_asm.specs.declared.form.ShiftInsn.{ShiftInsn}
use Rattle.rv_asm.specs.declared.form.ShiftInsn.TheVariants.{Slli, Srli, Srai}
use Rattle.rv_asm.specs.declared.form.LoadInsn.{LoadInsn}
use Rattle.rv_asm.specs.declared.form.LoadInsn.TheVariants.{Lb, Lh, Lw, Lbu, Lhu, Jalr}
use Rattle.rv_asm.specs.declared.form.StoreInsn.{StoreInsn}
use Rattle.rv_asm.specs.declared.form.StoreInsn.TheVariants.{Sb, Sh, Sw}
use Rattle.rv_asm.specs.declared.form.BranchInsn.{BranchInsn}
use Rattle.rv_asm.specs.declared.form.BranchInsn.TheVariants.{Beq, Bne, Blt, Bge, Bltu, Bgeu}
use Rattle.rv_asm.specs.declared.form.UpperInsn.{UpperInsn}
use Rattle.rv_asm.specs.declared.form.UpperInsn.TheVariants.{Lui, Auipc}
use Rattle.rv_asm.specs.declared.form.BareInsn.{BareInsn}
use Rattle.rv_asm.specs.declared.form.BareInsn.TheVariants.{Fence, Ecall, Ebreak}

-- ---- the instruction of each statement word that stands for one

abbrev pub register_insn : RegisterInsn → (rd rs1 rs2 : ℕ) → Insn
register_insn Add rd rs1 rs2 = insn.Add rd rs1 rs2
register_insn Sub rd rs1 rs2 = insn.Sub rd rs1 rs2
register_insn Sll rd rs1 rs2 = insn.Sll rd rs1 rs2
register_insn Slt rd rs1 rs2 = insn.Slt rd rs1 rs2
register_insn Sltu rd rs1 rs2 = insn.Sltu rd rs1 rs2
register_insn Xor rd rs1 rs2 = insn.Xor rd rs1 rs2
register_insn Srl rd rs1 rs2 = insn.Srl rd rs1 rs2
register_insn Sra rd rs1 rs2 = insn.Sra rd rs1 rs2
register_insn Or rd rs1 rs2 = insn.Or rd rs1 rs2
register_insn And rd rs1 rs2 = insn.And rd rs1 rs2

abbrev pub number_insn : NumberInsn → (rd rs1 : ℕ) → (number : ℤ) → Insn
number_insn Addi rd rs1 number = insn.Addi rd rs1 number
number_insn Slti rd rs1 number = insn.Slti rd rs1 number
number_insn Sltiu rd rs1 number = insn.Sltiu rd rs1 number
number_insn Xori rd rs1 number = insn.Xori rd rs1 number
number_insn Ori rd rs1 number = insn.Ori rd rs1 number
number_insn Andi rd rs1 number = insn.Andi rd rs1 number

abbrev pub shift_insn : ShiftInsn → (rd rs1 : ℕ) → (shift : ℤ) → Insn
shift_insn Slli rd rs1 shift = insn.Slli rd rs1 shift
shift_insn Srli rd rs1 shift = insn.Srli rd rs1 shift
shift_insn Srai rd rs1 shift = insn.Srai rd rs1 shift

abbrev pub load_insn : LoadInsn → (rd rs1 : ℕ) → (number : ℤ) → Insn
load_insn Lb rd rs1 number = insn.Lb rd rs1 number
load_insn Lh rd rs1 number = insn.Lh rd rs1 number
load_insn Lw rd rs1 number = insn.Lw rd rs1 number
load_insn Lbu rd rs1 number = insn.Lbu rd rs1 number
load_insn Lhu rd rs1 number = insn.Lhu rd rs1 number
load_insn Jalr rd rs1 number = insn.Jalr rd rs1 number

abbrev pub store_insn : StoreInsn → (rs1 rs2 : ℕ) → (number : ℤ) → Insn
store_insn Sb rs1 rs2 number = insn.Sb rs1 rs2 number
store_insn Sh rs1 rs2 number = insn.Sh rs1 rs2 number
store_insn Sw rs1 rs2 number = insn.Sw rs1 rs2 number

abbrev pub branch_insn : BranchInsn → (rs1 rs2 : ℕ) → (distance : ℤ) → Insn
branch_insn Beq rs1 rs2 distance = insn.Beq rs1 rs2 distance
branch_insn Bne rs1 rs2 distance = insn.Bne rs1 rs2 distance
branch_insn Blt rs1 rs2 distance = insn.Blt rs1 rs2 distance
branch_insn Bge rs1 rs2 distance = insn.Bge rs1 rs2 distance
branch_insn Bltu rs1 rs2 distance = insn.Bltu rs1 rs2 distance
branch_insn Bgeu rs1 rs2 distance = insn.Bgeu rs1 rs2 distance

-- the immediate whose upper 20 bits are these
abbrev pub upper_immediate : ℕ → ℤ
upper_immediate upper = sign_extended 32 (upper * 4096)

abbrev pub upper_insn : UpperInsn → (rd upper : ℕ) → Insn
upper_insn Lui rd upper = insn.Lui rd (upper_immediate upper)
upper_insn Auipc rd upper = insn.Auipc rd (upper_immediate upper)

abbrev pub bare_insn : BareInsn → Insn
bare_insn Fence = insn.Fence
bare_insn Ecall = insn.Ecall
bare_insn Ebreak = insn.Ebreak

-- ---- two words for a value v below 2 ^ 32: lui rd, h and addi rd, rd, v - h * 4096

-- h: (v + 2048) / 4096 rounded down, modulo 2 ^ 20
abbrev pub high_part : ℕ → ℕ
high_part v = (v + 2048) / 4096 % 2 ^ 20

-- the number from -2048 to 2047 that agrees with v - h * 4096, and so with v, modulo 4096
abbrev pub low_part : ℕ → ℤ
low_part v = sign_extended 12 (v % 4096)

abbrev pub first_half : (rd v : ℕ) → ℕ
first_half rd v = encoded (insn.Lui rd (upper_immediate (high_part v)))

abbrev pub second_half : (rd v : ℕ) → ℕ
second_half rd v = encoded (insn.Addi rd rd (low_part v))
