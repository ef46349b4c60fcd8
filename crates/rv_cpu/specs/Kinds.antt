-- The kinds of instructions that only compute: a register gets a value, and pc goes on.
use Rattle.std.specs.Prelude.{Bool, true, false}
use Rattle.rv_insn.specs.declared.Insn.{Insn}
use Rattle.rv_insn.specs.declared.Insn.TheVariants.{Lui, Auipc, Addi, Slti, Sltiu, Xori, Ori, Andi, Slli, Srli, Srai, Add, Sub, Sll, Slt, Sltu, Xor, Srl, Sra, Or, And}

-- of two registers
abbrev pub is_operation : Insn → Bool
is_operation (Add rd rs1 rs2) = true
is_operation (Sub rd rs1 rs2) = true
is_operation (Sll rd rs1 rs2) = true
is_operation (Slt rd rs1 rs2) = true
is_operation (Sltu rd rs1 rs2) = true
is_operation (Xor rd rs1 rs2) = true
is_operation (Srl rd rs1 rs2) = true
is_operation (Sra rd rs1 rs2) = true
is_operation (Or rd rs1 rs2) = true
is_operation (And rd rs1 rs2) = true
is_operation _ = false

-- of two registers, of a register and an immediate, or of an immediate
abbrev pub is_computed : Insn → Bool
is_computed (Lui rd imm) = true
is_computed (Auipc rd imm) = true
is_computed (Addi rd rs1 imm) = true
is_computed (Slti rd rs1 imm) = true
is_computed (Sltiu rd rs1 imm) = true
is_computed (Xori rd rs1 imm) = true
is_computed (Ori rd rs1 imm) = true
is_computed (Andi rd rs1 imm) = true
is_computed (Slli rd rs1 imm) = true
is_computed (Srli rd rs1 imm) = true
is_computed (Srai rd rs1 imm) = true
is_computed i = is_operation i
