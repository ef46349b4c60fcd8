-- A program: the rules that its lines keep, and its words.
use Rattle.std.specs.Prelude.{ℕ, ◌+◌, ◌*◌, ◌%◌, ◌^◌, Bool, true, false, not, List, [], ◌∷◌, ◌++◌, Option, Some, None, Result, Ok, Err, ℤ, pos, ◌-ℤ◌, nat_lt, nat_le, is_none, ◌&&◌, ◌||◌, if◌then◌else◌}
use Rattle.std.specs.List.{find}
use Rattle.text_parts.specs.Lines.{are_printable, lines_of}
use Rattle.text_parts.specs.Table.{lookup}
use Rattle.rv_insn.specs.declared.Insn.TheVariants as insn
use Rattle.rv_insn.specs.Encoding.{encoded}
use Rattle.rv_asm.specs.declared.refusal.Rule.{Rule}
use Rattle.rv_asm.specs.declared.refusal.Rule.TheVariants.{ForeignByte, UnknownWord, BadForm, NumberRange, DefinedTwice, NeverDefined, TooFar, TooLong}
use Rattle.rv_asm.specs.declared.labels.Place.{Place}
use Rattle.rv_asm.specs.Refusal.{same_rule}
use Rattle.rv_asm.specs.Line.{label_of, is_label}
use Rattle.rv_asm.specs.Statement.{Code, Nothing, One, Two, BranchTo, JumpTo, AddressOf, Bytes}
use Rattle.rv_asm.specs.Instructions.{branch_insn, first_half, second_half}
use Rattle.rv_asm.specs.Labels.{own_code, line_code, line_size, defined_in, labels_from}

-- the address of the next word after n words: the first stands at 0x00010000
abbrev pub address_after : ℕ → ℕ
address_after n = 0x10000 + 4 * n

-- ---- the rules

-- the label that a statement names
abbrev pub target_of : Code → Option (List ℕ)
target_of Nothing = None
target_of (One word) = None
target_of (Two first second) = None
target_of (BranchTo branch rs1 rs2 target) = Some target
target_of (JumpTo rd target) = Some target
target_of (AddressOf rd target) = Some target
target_of (Bytes bytes) = None

-- a distance from an address to another: at most below further back, and at most above further on
abbrev pub is_near : (below above here there : ℕ) → Bool
is_near below above here there = nat_le here (there + below) && nat_le there (here + above)

-- a branch or a jump can go there; what goes nowhere can
abbrev pub reaches : Code → (here there : ℕ) → Bool
reaches Nothing here there = true
reaches (One word) here there = true
reaches (Two first second) here there = true
reaches (BranchTo branch rs1 rs2 target) here there = is_near 4096 4094 here there
reaches (JumpTo rd target) here there = is_near 1048576 1048574 here there
reaches (AddressOf rd target) here there = true
reaches (Bytes bytes) here there = true

-- the statement breaks this rule
abbrev pub is_rule : Rule → Result Code Rule → Bool
is_rule rule (Ok code) = false
is_rule rule (Err broken) = same_rule rule broken

-- a malformed label
abbrev pub bad_label : Option (List ℕ) → Bool
bad_label None = false
bad_label (Some name) = not (is_label name)

-- a place in an earlier line
abbrev pub is_before : ℕ → Option Place → Bool
is_before n None = false
is_before n (Some place) = nat_lt place.line n

-- the name is a label that an earlier line defines
abbrev pub defined_before : List (List ℕ × Place) → ℕ → Option (List ℕ) → Bool
defined_before labels n None = false
defined_before labels n (Some name) = is_before n (lookup labels name)

-- the name is a label that no line defines
abbrev pub is_undefined : List (List ℕ × Place) → Option (List ℕ) → Bool
is_undefined labels None = false
is_undefined labels (Some name) = is_none (lookup labels name)

-- the place is too far from the code
abbrev pub is_far : Code → ℕ → Option Place → Bool
is_far code here None = false
is_far code here (Some place) = not (reaches code here (address_after place.words))

-- and so is the place of the label that the code names
abbrev pub too_far : List (List ℕ × Place) → Code → ℕ → Option (List ℕ) → Bool
too_far labels code here None = false
too_far labels code here (Some name) = is_far code here (lookup labels name)

-- the lower of the two rules on the label that the code names
abbrev pub broken_target : List (List ℕ × Place) → Code → ℕ → Option Rule
broken_target labels code here =
    if is_undefined labels (target_of code) then Some NeverDefined
    else (if too_far labels code here (target_of code) then Some TooFar else None)

-- line n, which follows so many words, breaks the rule in a program with these labels
abbrev pub breaks : List (List ℕ × Place) → (n words : ℕ) → (line : List ℕ) → Rule → Bool
breaks labels n words line ForeignByte = not (are_printable line)
breaks labels n words line UnknownWord = is_rule UnknownWord (own_code line)
breaks labels n words line BadForm = bad_label (label_of line) || is_rule BadForm (own_code line)
breaks labels n words line NumberRange = is_rule NumberRange (own_code line)
breaks labels n words line DefinedTwice = defined_before labels n (defined_in line)
breaks labels n words line NeverDefined = is_undefined labels (target_of (line_code line))
breaks labels n words line TooFar = too_far labels (line_code line) (address_after words) (target_of (line_code line))
breaks labels n words line TooLong = nat_lt 16384 (words + line_size line)

-- from the lowest on
abbrev pub rules : List Rule
rules = ForeignByte ∷ UnknownWord ∷ BadForm ∷ NumberRange ∷ DefinedTwice ∷ NeverDefined ∷ TooFar ∷ TooLong ∷ []

-- the lowest rule that the line breaks
abbrev pub broken_by : List (List ℕ × Place) → (n words : ℕ) → (line : List ℕ) → Option Rule
broken_by labels n words line = find (breaks labels n words line) rules

-- ---- the words

-- bytes as words, filled with zero bytes
abbrev pub words_of_bytes : List ℕ → List ℕ
words_of_bytes [] = []
words_of_bytes (a ∷ []) = a ∷ []
words_of_bytes (a ∷ b ∷ []) = (a + 2 ^ 8 * b) ∷ []
words_of_bytes (a ∷ b ∷ c ∷ []) = (a + 2 ^ 8 * b + 2 ^ 16 * c) ∷ []
words_of_bytes (a ∷ b ∷ c ∷ d ∷ more) = (a + 2 ^ 8 * b + 2 ^ 16 * c + 2 ^ 24 * d) ∷ words_of_bytes more

-- the address of a label that is defined
abbrev pub address_of : Option Place → ℕ
address_of None = 0
address_of (Some place) = address_after place.words

-- the distance from an address to another
abbrev pub distance : (here there : ℕ) → ℤ
distance here there = pos there -ℤ pos here

-- the words of the code at the address here
abbrev pub words_at : List (List ℕ × Place) → (here : ℕ) → Code → List ℕ
words_at labels here Nothing = []
words_at labels here (One word) = word ∷ []
words_at labels here (Two first second) = first ∷ second ∷ []
words_at labels here (BranchTo branch rs1 rs2 target) = encoded (branch_insn branch rs1 rs2 (distance here (address_of (lookup labels target)))) ∷ []
words_at labels here (JumpTo rd target) = encoded (insn.Jal rd (distance here (address_of (lookup labels target)))) ∷ []
words_at labels here (AddressOf rd target) = first_half rd (address_of (lookup labels target) % 2 ^ 32) ∷ second_half rd (address_of (lookup labels target) % 2 ^ 32) ∷ []
words_at labels here (Bytes bytes) = words_of_bytes bytes

-- these words before the others
abbrev pub with_front : List ℕ → Result (List ℕ) (ℕ × Rule) → Result (List ℕ) (ℕ × Rule)
with_front front (Ok rest) = Ok (front ++ rest)
with_front front (Err refused) = Err refused

-- a line with this number: the rule that it breaks, or its words and those of the lines after it
abbrev pub line_then : (n : ℕ) → Option Rule → List ℕ → Result (List ℕ) (ℕ × Rule) → Result (List ℕ) (ℕ × Rule)
line_then n None front rest = with_front front rest
line_then n (Some rule) front rest = Err (n, rule)

-- the words of the lines from number n on, which follow so many words, or the first of them that breaks a rule and the lowest such rule
abbrev pub reading_from : List (List ℕ × Place) → (n words : ℕ) → List (List ℕ) → Result (List ℕ) (ℕ × Rule)
reading_from labels n words [] = Ok []
reading_from labels n words (line ∷ lines) = line_then n (broken_by labels n words line) (words_at labels (address_after words) (line_code line)) (reading_from labels (n + 1) (words + line_size line) lines)

-- the words of lines, or the first line that breaks a rule and the lowest such rule: the lines are counted from 1
unfoldable pub reading_of_lines : List (List ℕ) → Result (List ℕ) (ℕ × Rule)
reading_of_lines lines = reading_from (labels_from 1 0 lines) 1 0 lines

-- the same of the lines of a text
abbrev pub reading_of : List ℕ → Result (List ℕ) (ℕ × Rule)
reading_of text = reading_of_lines (lines_of text)
