-- The lines of a program by themselves, and the labels that they define.
use Rattle.std.specs.Prelude.{ℕ, ◌+◌, List, [], ◌∷◌, ◌++◌, length, Option, Some, None, Result, Ok, Err, if◌then◌else◌}
use Rattle.std.specs.Int.{div_ceil}
use Rattle.text_parts.specs.Lines.{lines_of}
use Rattle.rv_asm.specs.declared.refusal.Rule.{Rule}
use Rattle.rv_asm.specs.declared.labels.Place.{Place}
use Rattle.rv_asm.specs.Line.{label_of, statement_of, is_label}
use Rattle.rv_asm.specs.Statement.{Code, Nothing, One, Two, BranchTo, JumpTo, AddressOf, Bytes, code_of_statement}

-- how many words the code has
abbrev pub size_of : Code → ℕ
size_of Nothing = 0
size_of (One word) = 1
size_of (Two first second) = 2
size_of (BranchTo branch rs1 rs2 target) = 1
size_of (JumpTo rd target) = 1
size_of (AddressOf rd target) = 2
size_of (Bytes bytes) = div_ceil (length bytes) 4

-- what the line's statement stands for, or which of the rules 2 to 4 it breaks
abbrev pub own_code : List ℕ → Result Code Rule
own_code line = code_of_statement (statement_of line)

-- what the line stands for; nothing, where it breaks one of the rules 2 to 4
abbrev pub code_or_nothing : Result Code Rule → Code
code_or_nothing (Ok code) = code
code_or_nothing (Err rule) = Nothing

-- so a line that breaks one of them has no words
abbrev pub line_code : List ℕ → Code
line_code line = code_or_nothing (own_code line)

abbrev pub line_size : List ℕ → ℕ
line_size line = size_of (line_code line)

-- the label that a line defines: one that is well formed
abbrev pub if_label : Option (List ℕ) → Option (List ℕ)
if_label None = None
if_label (Some name) = if is_label name then Some name else None

abbrev pub defined_in : List ℕ → Option (List ℕ)
defined_in line = if_label (label_of line)

-- ---- the labels of the lines from number n on, which follow so many words

-- the row of the label that a line defines, if it defines one
abbrev pub entry_at : ℕ → ℕ → Option (List ℕ) → List (List ℕ × Place)
entry_at n words None = []
entry_at n words (Some name) = (name, record { line = n; words = words }) ∷ []

abbrev pub labels_from : ℕ → ℕ → List (List ℕ) → List (List ℕ × Place)
labels_from n words [] = []
labels_from n words (line ∷ lines) = entry_at n words (defined_in line) ++ labels_from (n + 1) (words + line_size line) lines

abbrev pub labels_of : List ℕ → List (List ℕ × Place)
labels_of text = labels_from 1 0 (lines_of text)
