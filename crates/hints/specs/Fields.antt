-- Which field of a line of a system text breaks rule 4 or 5.
use Rattle.std.specs.Prelude.{ℕ, ◌+◌, ◌==◌, ◌||◌, Bool, false, not, List, [], ◌∷◌, codes, Option, Some, None, is_some, nat_lt, if◌then◌else◌}
use Rattle.std.specs.Str.{bytes_eq}
use Rattle.text_parts.specs.Lines.{fields_of}
use Rattle.text_parts.specs.Numbers.{number_of, word_of}
use Rattle.sys_text.specs.Valid.{is_name}
use Rattle.sys_text.specs.Kinds.{mode_named}
use Rattle.sys_text.specs.declared.stage.Keyword.{Keyword}
use Rattle.hints.specs.declared.kinds.Field.{Field}
use Rattle.hints.specs.declared.kinds.Wanted.{Wanted}
use Rattle.hints.specs.declared.kinds.Wanted.TheVariants as wants
use Rattle.hints.specs.declared.fields.Bad.{Bad}
use Rattle.hints.specs.Kinds.{field_at, wanted, limits}

-- the text is what a field has to be
abbrev pub is_what : Wanted → List ℕ → Bool
is_what wants.Number text = is_some (number_of text)
is_what wants.Name text = is_name text
is_what wants.Word text = is_some (word_of text)
is_what wants.Mode text = is_some (mode_named text)

abbrev pub is_outside : (low high value : ℕ) → Bool
is_outside low high value = nat_lt value low || nat_lt high value

-- a number is outside its limits
abbrev pub exceeds_by : Option (ℕ × ℕ) → Option ℕ → Bool
exceeds_by None value = false
exceeds_by (Some limits) None = false
exceeds_by (Some limits) (Some value) = is_outside limits.0 limits.1 value

abbrev pub exceeds : Option (ℕ × ℕ) → List ℕ → Bool
exceeds limits text = exceeds_by limits (number_of text)

-- the text of a field breaks rule 4 or 5
abbrev pub breaks : (rule clusters : ℕ) → Field → List ℕ → Bool
breaks rule clusters field text =
    if rule == 4 then not (is_what (wanted field) text)
    else if rule == 5 then exceeds (limits clusters field) text
    else false

-- the field as it is found
abbrev pub bad_of : Bad → Field × List ℕ
bad_of bad = (bad.field, bad.text.now)

-- this field where it breaks the rule, or what is found behind it
abbrev pub bad_or : (rule clusters : ℕ) → Option Field → List ℕ → Option (Field × List ℕ) → Option (Field × List ℕ)
bad_or rule clusters None text rest = rest
bad_or rule clusters (Some field) text rest = if breaks rule clusters field text then Some (field, text) else rest

-- the first field that breaks the rule, where the first of these follows so many
abbrev pub first_bad : (rule : ℕ) → Keyword → (clusters index : ℕ) → List (List ℕ) → Option (Field × List ℕ)
first_bad rule keyword clusters index [] = None
first_bad rule keyword clusters index (text ∷ texts) = bad_or rule clusters (field_at keyword index) text (first_bad rule keyword clusters (index + 1) texts)

-- the number of a line `clusters N`
abbrev pub clusters_in : List (List ℕ) → Option ℕ
clusters_in [] = None
clusters_in (first ∷ []) = None
clusters_in (first ∷ count ∷ rest) = if bytes_eq first (codes "clusters") then number_of count else None

abbrev pub count_or : Option ℕ → ℕ → ℕ
count_or None rest = rest
count_or (Some count) rest = count

-- the number of the first such line; 0 where there is none
abbrev pub clusters_of : List (List ℕ) → ℕ
clusters_of [] = 0
clusters_of (line ∷ lines) = count_or (clusters_in (fields_of line)) (clusters_of lines)
