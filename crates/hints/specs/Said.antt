-- The words of a guess, and of a field that breaks a rule.
use Rattle.std.specs.Prelude.{ℕ, ◌==◌, List, [], ◌∷◌, ◌++◌, codes, Option, Some, None, option_map, if◌then◌else◌}
use Rattle.std.specs.Fmt.{decimal}
use Rattle.text_parts.specs.Lines.{fields_of}
use Rattle.text_parts.specs.Table.{lookup}
use Rattle.refusal_text.specs.Lines.{line_at}
use Rattle.refusal_text.specs.Shown.{shown}
use Rattle.hints.specs.declared.guesses.Guess.{Guess}
use Rattle.hints.specs.declared.guesses.Guess.TheVariants.{Comment, EndWithMore, InBlock, NoEnd, NoEndBefore}
use Rattle.hints.specs.declared.kinds.Field.{Field}
use Rattle.sys_text.specs.declared.stage.Keyword.{Keyword}
use Rattle.hints.specs.declared.kinds.Wanted.{Wanted}
use Rattle.hints.specs.declared.kinds.Wanted.TheVariants as wants
use Rattle.sys_text.specs.Kinds.{keywords_by_name}
use Rattle.hints.specs.Kinds.{limits, name_of, wanted}
use Rattle.hints.specs.Fields.{first_bad, clusters_of}
use Rattle.hints.specs.Guesses.{guess_of}

-- the front of what is said of a line that is refused by this rule
abbrev pub head_of : (line rule : ℕ) → List ℕ
head_of line rule = codes "t32: line " ++ (decimal line ++ (codes ": rule " ++ (decimal rule ++ codes ": ")))

abbrev pub guess_text : Guess → List ℕ
guess_text Comment = codes "# begins no comment here; outside asm blocks a comment is a line of its own\n"
guess_text EndWithMore = codes "a block ends at a line whose only field is end\n"
guess_text (InBlock header) = codes "the block that line " ++ (decimal header ++ codes " opens may lack its end\n")
guess_text (NoEnd header) = codes "the block that line " ++ (decimal header ++ codes " opens has no end\n")
guess_text (NoEndBefore header line) =
    codes "the block that line " ++ (decimal header ++ (codes " opens has no end, a line whose only field is end; maybe at line " ++ (decimal line ++ 10 ∷ [])))

-- what a field has to be, where it breaks rule 4
abbrev pub wanted_text : Wanted → List ℕ
wanted_text wants.Number = codes "; it has to be a number of 1 to 10 digits\n"
wanted_text wants.Name = codes "; it has to be a name, a letter a to z and up to 15 letters a to z or digits\n"
wanted_text wants.Word = codes "; it has to be a word, eight hexadecimal digits\n"
wanted_text wants.Mode = codes "; it has to be quarter, half or full\n"

-- and where it breaks rule 5
abbrev pub limits_text : Option (ℕ × ℕ) → List ℕ
limits_text None = codes "; it has no limits\n"
limits_text (Some limits) = codes "; it may be " ++ (decimal limits.0 ++ (codes " to " ++ (decimal limits.1 ++ 10 ∷ [])))

abbrev pub field_text : (rule clusters : ℕ) → Field × List ℕ → List ℕ
field_text rule clusters bad =
    name_of bad.0 ++ codes " is " ++ shown bad.1 ++ (if rule == 4 then wanted_text (wanted bad.0) else limits_text (limits clusters bad.0))

-- the first of these fields says what the others are
abbrev pub bad_by : (rule clusters : ℕ) → Option Keyword → List (List ℕ) → Option (Field × List ℕ)
bad_by rule clusters None texts = None
bad_by rule clusters (Some keyword) texts = first_bad rule keyword clusters 0 texts

abbrev pub bad_among : (rule clusters : ℕ) → List (List ℕ) → Option (Field × List ℕ)
bad_among rule clusters [] = None
bad_among rule clusters (first ∷ texts) = bad_by rule clusters (lookup keywords_by_name first) texts

abbrev pub bad_in : (rule clusters : ℕ) → Option (List ℕ) → Option (Field × List ℕ)
bad_in rule clusters None = None
bad_in rule clusters (Some line) = bad_among rule clusters (fields_of line)

-- what is said of the field of a line that breaks rule 4 or 5
abbrev pub field_hint : List (List ℕ) → (line rule : ℕ) → Option (List ℕ)
field_hint lines line rule = option_map (λ bad. head_of line rule ++ field_text rule (clusters_of lines) bad) (bad_in rule (clusters_of lines) (line_at lines line))

abbrev pub hint_by : List (List ℕ) → (line rule : ℕ) → Option Guess → Option (List ℕ)
hint_by lines line rule None = field_hint lines line rule
hint_by lines line rule (Some guess) = Some (head_of line rule ++ guess_text guess)

-- what is said of the line with this number, which is refused by this rule: a guess, or else its field
abbrev pub system_hint : List (List ℕ) → (line rule : ℕ) → Option (List ℕ)
system_hint lines line rule = hint_by lines line rule (guess_of lines line rule)
