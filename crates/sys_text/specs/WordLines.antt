-- A line of words in an open image.
use Rattle.std.specs.Prelude.{◌≡◌, ℕ, ◌+◌, ◌<◌, true, not, List, ◌∷◌, length, Option, Some, None, codes, nat_le, if◌then◌else◌}
use Rattle.std.specs.List.{list_all}
use Rattle.text_parts.specs.Lines.{are_printable, fields_of}
use Rattle.text_parts.specs.Numbers.{word_of}
use Rattle.sys_text.specs.declared.stage.Stage.{Stage}
use Rattle.sys_text.specs.declared.stage.Stage.TheVariants.{InImage}
use Rattle.sys_text.specs.declared.refusal.Rule.{Rule}
use Rattle.sys_text.specs.declared.refusal.Rule.TheVariants.{FieldCount, FieldKind, Room}
use Rattle.sys_text.specs.declared.refusal.SystemRefused.{SystemRefused}
use Rattle.sys_text.specs.declared.refusal.SystemRefused.TheVariants as refusals
use Rattle.sys_text.specs.Refusal.{number_of_rule}
use Rattle.sys_text.specs.Line.{is_word_field}
use Rattle.sys_text.specs.Rules.{fit_limit}

-- the first field of the line is `words`, and these bytes stand after it
pub record IsWordsLine (stage : Stage) (line rest : List ℕ) : Type 0 where
  pub in_image : stage ≡ InImage
  pub printable : are_printable line ≡ true
  pub fields : fields_of line ≡ codes "words" ∷ fields_of rest

-- the first field of the line is this word or, with None, no word, and these bytes stand after it
pub record FirstWord (line : List ℕ) (value : Option ℕ) (rest : List ℕ) : Type 0 where
  pub field : List ℕ
  pub fields : fields_of line ≡ field ∷ fields_of rest
  pub value_is : word_of field ≡ value
  pub shorter : length rest < length line

-- the lowest rule that the fields after `words` break, behind so many words of a block of so many pages, where these are a limit
abbrev pub lowest_of_words : (words : ℕ) → (pages : Option ℕ) → List (List ℕ) → Option Rule
lowest_of_words words pages fields =
    if not (nat_le 1 (length fields)) then Some FieldCount
    else (if not (list_all (is_word_field) fields) then Some FieldKind
    else (if not (fit_limit (words + length fields) pages) then Some Room else None))

-- line n is refused by this rule
abbrev pub RefusesBy : SystemRefused → ℕ → Option Rule → Type 0
RefusesBy (refusals.BadLine line rule) n lowest = (broken : Rule) × (lowest ≡ Some broken) × (line ≡ n) × (rule ≡ number_of_rule broken)
RefusesBy refusals.NoMemory n lowest = Unit {0}
