-- A line: a label, a statement and a comment.
use Rattle.std.specs.Prelude.{ℕ, Bool, false, List, [], ◌∷◌, drop, Option, Some, None, Result, Ok, Err, map, ◌==◌, ◌||◌, ◌&&◌, if◌then◌else◌}
use Rattle.std.specs.List.{list_all, slice_split}
use Rattle.std.specs.Char.{is_ascii_digit, is_ascii_lowercase}
use Rattle.text_parts.specs.Lines.{is_space, is_empty, before, from, trim_start, trim}
use Rattle.rv_asm.specs.declared.line.Quoting.{Quoting}
use Rattle.rv_asm.specs.declared.line.Quoting.TheVariants.{Outside, Inside, Escaped}
use Rattle.rv_asm.specs.declared.refusal.Rule.{Rule}
use Rattle.rv_asm.specs.declared.refusal.Rule.TheVariants.{BadForm}
use Rattle.rv_asm.specs.Steps.{◌>>=◌}

-- where the byte after b stands
abbrev pub after : Quoting → ℕ → Quoting
after Outside b = if b == 34 then Inside else Outside
after Inside b = if b == 34 then Outside else (if b == 92 then Escaped else Inside)
after Escaped b = Inside

-- a number sign outside quotes
abbrev pub starts_comment : Quoting → ℕ → Bool
starts_comment Outside b = b == 35
starts_comment Inside b = false
starts_comment Escaped b = false

-- the line up to its comment, from a byte on that stands at q
abbrev pub before_comment : Quoting → List ℕ → List ℕ
before_comment q [] = []
before_comment q (b ∷ bs) = if starts_comment q b then [] else b ∷ before_comment (after q b) bs

-- the line without its comment and the spaces at its front
abbrev pub code_of : List ℕ → List ℕ
code_of line = trim_start (before_comment Outside line)

-- where a label at the front of the code would end: a colon, and a space before any
abbrev pub ends_label : ℕ → Bool
ends_label b = is_space b || b == 58

-- a colon stands here
abbrev pub starts_with_colon : List ℕ → Bool
starts_with_colon [] = false
starts_with_colon (b ∷ bs) = b == 58

-- the first word of the code, up to a space, has a colon
abbrev pub has_label : List ℕ → Bool
has_label code = starts_with_colon (from ends_label code)

-- what stands before the first colon of that word
abbrev pub label_of : List ℕ → Option (List ℕ)
label_of line = if has_label (code_of line) then Some (before ends_label (code_of line)) else None

-- what stands after that colon; without one, the code
abbrev pub statement_of : List ℕ → List ℕ
statement_of line = if has_label (code_of line) then trim_start (drop 1 (from ends_label (code_of line))) else code_of line

-- a statement is a word, and what stands after it
abbrev pub word_of : List ℕ → List ℕ
word_of statement = before is_space statement

-- the text of its operands
abbrev pub operands_of : List ℕ → List ℕ
operands_of statement = trim (from is_space statement)

-- label names are letters a to z, digits and '_', and begin with a letter
abbrev pub is_label_byte : ℕ → Bool
is_label_byte b = (is_ascii_lowercase b || is_ascii_digit b) || b == 95

abbrev pub is_label : List ℕ → Bool
is_label [] = false
is_label (b ∷ bs) = is_ascii_lowercase b && list_all is_label_byte bs

-- ---- operands

abbrev pub is_comma : ℕ → Bool
is_comma b = b == 44

-- operands are separated by commas, and spaces around them are ignored
abbrev pub split_operands : List ℕ → List (List ℕ)
split_operands text = map trim (slice_split is_comma text)

-- no operand
abbrev pub no_operand : List ℕ → Result (Unit {0}) Rule
no_operand text = if is_empty text then Ok tt else Err BadForm

-- one operand alone
abbrev pub just_one : List (List ℕ) → Result (List ℕ) Rule
just_one [] = Err BadForm
just_one (a ∷ []) = Ok a
just_one (a ∷ b ∷ more) = Err BadForm

-- two operands
abbrev pub just_two : List (List ℕ) → Result (List ℕ × List ℕ) Rule
just_two [] = Err BadForm
just_two (a ∷ more) = do
  b ← just_one more
  Ok (a, b)

-- three operands
abbrev pub just_three : List (List ℕ) → Result (List ℕ × List ℕ × List ℕ) Rule
just_three [] = Err BadForm
just_three (a ∷ more) = do
  o ← just_two more
  Ok (a, o.0, o.1)

-- ---- number(register)

abbrev pub is_open : ℕ → Bool
is_open b = b == 40

abbrev pub is_close : ℕ → Bool
is_close b = b == 41

abbrev pub is_just_close : List ℕ → Bool
is_just_close [] = false
is_just_close (b ∷ bs) = b == 41 && is_empty bs

-- what stands after the first parenthesis
abbrev pub inside_of : List ℕ → List ℕ
inside_of operand = drop 1 (from is_open operand)

-- the texts of the number and of the register
abbrev pub based : List ℕ → Result (List ℕ × List ℕ) Rule
based operand = if is_just_close (from is_close (inside_of operand)) then Ok (before is_open operand, before is_close (inside_of operand)) else Err BadForm
