-- Which line is refused, rule by rule.
use Rattle.std.specs.Prelude.{◌≡◌, ℕ, zero, suc, ◌+◌, ◌<◌, Bool, true, false, List, [], ◌∷◌, ◌++◌}
use Rattle.text_parts.specs.Lines.{lines_of}
use Rattle.rv_asm.specs.declared.labels.Place.{Place}
use Rattle.rv_asm.specs.declared.refusal.Rule.{Rule}
use Rattle.rv_asm.specs.declared.refusal.AsmRefused.{AsmRefused}
use Rattle.rv_asm.specs.declared.refusal.AsmRefused.TheVariants as refusals
use Rattle.rv_asm.specs.Refusal.{number_of_rule}
use Rattle.rv_asm.specs.Labels.{line_code, line_size, labels_of}
use Rattle.rv_asm.specs.Program.{breaks, words_at, address_after}

-- the line after i others breaks the rule, where the first of the lines has number n and follows so many words
abbrev pub breaks_among : List (List ℕ × Place) → (n words : ℕ) → List (List ℕ) → ℕ → Rule → Bool
breaks_among labels n words [] i rule = false
breaks_among labels n words (line ∷ lines) zero rule = breaks labels n words line rule
breaks_among labels n words (line ∷ lines) (suc i) rule = breaks_among labels (n + 1) (words + line_size line) lines i rule

-- line i + 1 of the text breaks the rule
abbrev pub line_breaks : List ℕ → ℕ → Rule → Bool
line_breaks text i rule = breaks_among (labels_of text) 1 0 (lines_of text) i rule

-- the refused line is the first one at which a rule is broken, and the lowest such rule is named
pub record IsRefused (text : List ℕ) (line : ℕ) (rule : Rule) : Type 0 where
  pub before : ℕ
  pub number : line ≡ before + 1
  pub broken : line_breaks text before rule ≡ true
  pub lowest : (lower : Rule) → number_of_rule lower < number_of_rule rule → line_breaks text before lower ≡ false
  pub first : (i : ℕ) (other : Rule) → i < before → line_breaks text i other ≡ false

-- the words of the lines one after the other
abbrev pub words_from : List (List ℕ × Place) → (words : ℕ) → List (List ℕ) → List ℕ
words_from labels words [] = []
words_from labels words (line ∷ lines) = words_at labels (address_after words) (line_code line) ++ words_from labels (words + line_size line) lines

-- no line breaks a rule, and the words are those of the lines
pub record AreWordsOf (text : List ℕ) (words : List ℕ) : Type 0 where
  pub kept : (i : ℕ) (rule : Rule) → line_breaks text i rule ≡ false
  pub words_are : words ≡ words_from (labels_of text) 0 (lines_of text)

-- what is refused is a line that breaks a rule
abbrev pub HasCause : List ℕ → AsmRefused → Type 0
HasCause text (refusals.Line line number) = (rule : Rule) × (number ≡ number_of_rule rule) × IsRefused text line rule
HasCause text refusals.NoMemory = Unit {0}
