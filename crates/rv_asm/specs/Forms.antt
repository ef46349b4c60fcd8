-- The statements by their words.
use Rattle.std.specs.Prelude.{ℕ, List, [], ◌∷◌, codes, Option}
use Rattle.text_parts.specs.Table.{lookup}
use Rattle.rv_asm.specs.declared.form.Form.{Form}
use Rattle.rv_asm.specs.declared.form.Form.TheVariants.{Registers, Number, Shift, Load, Store, Branch, Upper, Bare, JumpAndLink, LoadNumber, LoadAddress, Jump, Move, Word, Ascii}
use Rattle.rv_asm.specs.declared.form.RegisterInsn.TheVariants.{Add, Sub, Sll, Slt, Sltu, Xor, Srl, Sra, Or, And}
use Rattle.rv_asm.specs.declared.form.NumberInsn.TheVariants.{Addi, Slti, Sltiu, Xori, Ori, Andi}
use Rattle.rv_asm.specs.declared.form.ShiftInsn.TheVariants.{Slli, Srli, Srai}
use Rattle.rv_asm.specs.declared.form.LoadInsn.TheVariants.{Lb, Lh, Lw, Lbu, Lhu, Jalr}
use Rattle.rv_asm.specs.declared.form.StoreInsn.TheVariants.{Sb, Sh, Sw}
use Rattle.rv_asm.specs.declared.form.BranchInsn.TheVariants.{Beq, Bne, Blt, Bge, Bltu, Bgeu}
use Rattle.rv_asm.specs.declared.form.UpperInsn.TheVariants.{Lui, Auipc}
use Rattle.rv_asm.specs.declared.form.BareInsn.TheVariants.{Fence, Ecall, Ebreak}

infix 20 ◌is◌
abbrev ◌is◌ : List ℕ → Form → List ℕ × Form
word is form = (word, form)

-- each statement word, by what operands it takes
abbrev pub forms : List (List ℕ × Form)
forms =
    -- rd, number; rd, label; label; rd, rs1; number; a text in quotes
    (codes "li" is LoadNumber) ∷ (codes "la" is LoadAddress) ∷ (codes "j" is Jump) ∷ (codes "mv" is Move) ∷ (codes ".word" is Word) ∷ (codes ".ascii" is Ascii)
    -- no operand
    ∷ (codes "ecall" is Bare Ecall) ∷ (codes "ebreak" is Bare Ebreak) ∷ (codes "fence" is Bare Fence)
    -- rs2, number(rs1)
    ∷ (codes "sw" is Store Sw) ∷ (codes "sb" is Store Sb) ∷ (codes "sh" is Store Sh)
    -- rd, number(rs1)
    ∷ (codes "lw" is Load Lw) ∷ (codes "lb" is Load Lb) ∷ (codes "lh" is Load Lh) ∷ (codes "lbu" is Load Lbu) ∷ (codes "lhu" is Load Lhu) ∷ (codes "jalr" is Load Jalr)
    -- rd, rs1, number -2048 to 2047
    ∷ (codes "addi" is Number Addi) ∷ (codes "slti" is Number Slti) ∷ (codes "sltiu" is Number Sltiu) ∷ (codes "xori" is Number Xori) ∷ (codes "ori" is Number Ori) ∷ (codes "andi" is Number Andi)
    -- rs1, rs2, label
    ∷ (codes "beq" is Branch Beq) ∷ (codes "bne" is Branch Bne) ∷ (codes "blt" is Branch Blt) ∷ (codes "bge" is Branch Bge) ∷ (codes "bltu" is Branch Bltu) ∷ (codes "bgeu" is Branch Bgeu)
    -- rd, rs1, rs2
    ∷ (codes "add" is Registers Add) ∷ (codes "sub" is Registers Sub) ∷ (codes "sll" is Registers Sll) ∷ (codes "slt" is Registers Slt) ∷ (codes "sltu" is Registers Sltu)
    ∷ (codes "xor" is Registers Xor) ∷ (codes "srl" is Registers Srl) ∷ (codes "sra" is Registers Sra) ∷ (codes "or" is Registers Or) ∷ (codes "and" is Registers And)
    -- rd, rs1, number 0 to 31
    ∷ (codes "slli" is Shift Slli) ∷ (codes "srli" is Shift Srli) ∷ (codes "srai" is Shift Srai)
    -- rd, number 0 to 1048575
    ∷ (codes "lui" is Upper Lui) ∷ (codes "auipc" is Upper Auipc)
    -- rd, label
    ∷ (codes "jal" is JumpAndLink) ∷ []

-- the form of the statement with this word
abbrev pub form_of : List ℕ → Option Form
form_of word = lookup forms word
