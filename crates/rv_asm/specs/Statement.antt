-- What a statement stands for, where its labels are not resolved.
use Rattle.std.specs.Prelude.{ℕ, Bool, List, Result, Ok, Err, ℤ, pos, negsuc, int_le, ◌&&◌, if◌then◌else◌}
use Rattle.std.specs.Option.{ok_or}
use Rattle.text_parts.specs.Lines.{is_empty}
use Rattle.rv_insn.specs.declared.Insn.TheVariants as insn
use Rattle.rv_insn.specs.Encoding.{encoded}
use Rattle.rv_asm.specs.declared.refusal.Rule.{Rule}
use Rattle.rv_asm.specs.declared.refusal.Rule.TheVariants.{UnknownWord, BadForm}
use Rattle.rv_asm.specs.declared.form.Form.{Form}
use Rattle.rv_asm.specs.declared.form.Form.TheVariants as forms
use Rattle.rv_asm.specs.declared.form.BranchInsn.{BranchInsn}
use Rattle.rv_asm.specs.Steps.{◌>>=◌}
use Rattle.rv_asm.specs.Registers.{register_of}
use Rattle.rv_asm.specs.Forms.{form_of}
use Rattle.rv_asm.specs.Line.{word_of, operands_of, is_label, split_operands, no_operand, just_one, just_two, just_three, based}
use Rattle.rv_asm.specs.Number.{ranged, modulo32}
use Rattle.rv_asm.specs.Quoted.{text_of}
use Rattle.rv_asm.specs.Instructions.{register_insn, number_insn, shift_insn, load_insn, store_insn, upper_insn, bare_insn, first_half, second_half}

-- nothing, one word, two words, what needs a label, or bytes
pub data Code : Type 0 where
  Nothing : Code
  One : (word : ℕ) → Code
  Two : (first second : ℕ) → Code
  BranchTo : (branch : BranchInsn) (rs1 rs2 : ℕ) (target : List ℕ) → Code
  JumpTo : (rd : ℕ) (target : List ℕ) → Code
  AddressOf : (rd : ℕ) (target : List ℕ) → Code
  Bytes : (bytes : List ℕ) → Code

-- ---- operands

abbrev pub register : List ℕ → Result ℕ Rule
register name = ok_or (register_of name) BadForm

-- a label that a statement names
abbrev pub target : List ℕ → Result (List ℕ) Rule
target name = if is_label name then Ok name else Err BadForm

-- a number of twelve bits
abbrev pub short : List ℕ → Result ℤ Rule
short text = ranged (negsuc 2047) (pos 2047) text

-- a number of bits
abbrev pub shift : List ℕ → Result ℤ Rule
shift text = ranged (pos 0) (pos 31) text

-- a number of twenty bits
abbrev pub upper : List ℕ → Result ℕ Rule
upper text = do
  v ← ranged (pos 0) (pos 1048575) text
  Ok (modulo32 v)

-- a number of 32 bits, signed or not
abbrev pub whole : List ℕ → Result ℤ Rule
whole text = ranged (negsuc 2147483647) (pos 4294967295) text

-- ---- the statements

abbrev pub is_short : ℤ → Bool
is_short v = int_le (negsuc 2047) v && int_le v (pos 2047)

-- addi rd, x0, v where v is short, else two words
abbrev pub load_number : ℕ → ℤ → Code
load_number rd v = if is_short v then One (encoded (insn.Addi rd 0 v)) else Two (first_half rd (modulo32 v)) (second_half rd (modulo32 v))

-- what a statement of the form stands for, with these operands
unfoldable pub code_in : Form → List ℕ → Result Code Rule
code_in (forms.Registers r) text = do
  o ← just_three (split_operands text)
  rd ← register o.0
  rs1 ← register o.1
  rs2 ← register o.2
  Ok (One (encoded (register_insn r rd rs1 rs2)))
code_in (forms.Number n) text = do
  o ← just_three (split_operands text)
  rd ← register o.0
  rs1 ← register o.1
  number ← short o.2
  Ok (One (encoded (number_insn n rd rs1 number)))
code_in (forms.Shift s) text = do
  o ← just_three (split_operands text)
  rd ← register o.0
  rs1 ← register o.1
  bits ← shift o.2
  Ok (One (encoded (shift_insn s rd rs1 bits)))
code_in (forms.Load l) text = do
  o ← just_two (split_operands text)
  rd ← register o.0
  b ← based o.1
  rs1 ← register b.1
  number ← short b.0
  Ok (One (encoded (load_insn l rd rs1 number)))
code_in (forms.Store s) text = do
  o ← just_two (split_operands text)
  rs2 ← register o.0
  b ← based o.1
  rs1 ← register b.1
  number ← short b.0
  Ok (One (encoded (store_insn s rs1 rs2 number)))
code_in (forms.Branch b) text = do
  o ← just_three (split_operands text)
  rs1 ← register o.0
  rs2 ← register o.1
  t ← target o.2
  Ok (BranchTo b rs1 rs2 t)
code_in (forms.Upper u) text = do
  o ← just_two (split_operands text)
  rd ← register o.0
  bits ← upper o.1
  Ok (One (encoded (upper_insn u rd bits)))
code_in (forms.Bare b) text = do
  o ← no_operand text
  Ok (One (encoded (bare_insn b)))
code_in forms.JumpAndLink text = do
  o ← just_two (split_operands text)
  rd ← register o.0
  t ← target o.1
  Ok (JumpTo rd t)
code_in forms.LoadNumber text = do
  o ← just_two (split_operands text)
  rd ← register o.0
  v ← whole o.1
  Ok (load_number rd v)
code_in forms.LoadAddress text = do
  o ← just_two (split_operands text)
  rd ← register o.0
  t ← target o.1
  Ok (AddressOf rd t)
code_in forms.Jump text = do
  o ← just_one (split_operands text)
  t ← target o
  Ok (JumpTo 0 t)
code_in forms.Move text = do
  o ← just_two (split_operands text)
  rd ← register o.0
  rs1 ← register o.1
  Ok (One (encoded (insn.Addi rd rs1 (pos 0))))
code_in forms.Word text = do
  o ← just_one (split_operands text)
  v ← whole o
  Ok (One (modulo32 v))
code_in forms.Ascii text = do
  bytes ← ok_or (text_of text) BadForm
  Ok (Bytes bytes)

-- what a statement stands for, by its word
abbrev pub code_by_word : List ℕ → Result Code Rule
code_by_word statement = do
  form ← ok_or (form_of (word_of statement)) UnknownWord
  code_in form (operands_of statement)

-- what the statement of a line stands for, or which of the rules 2 to 4 it breaks
abbrev pub code_of_statement : List ℕ → Result Code Rule
code_of_statement statement = if is_empty statement then Ok Nothing else code_by_word statement
