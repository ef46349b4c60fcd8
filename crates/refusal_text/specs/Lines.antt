-- A line of a text by its place.
use Rattle.std.specs.Prelude.{ℕ, ◌-◌, ◌^◌, Bool, false, not, List, [], ◌∷◌, drop, filter, nat_lt, Option, Some, None}
use Rattle.std.specs.List.{slice_get}
use Rattle.text_parts.specs.Lines.{fields_of}
use Rattle.text_parts.specs.Numbers.{number_of}
use Rattle.sys_text.specs.Rules.{is_skipped}

-- the line with this number, counted from 1
abbrev pub line_at : List (List ℕ) → (number : ℕ) → Option (List ℕ)
line_at lines number = slice_get lines (number - 1)

abbrev pub is_kept : List ℕ → Bool
is_kept line = not (is_skipped (fields_of line))

-- the lines that are not skipped
abbrev pub kept : List (List ℕ) → List (List ℕ)
kept lines = filter is_kept lines

-- the line of an item of a schedule section: the items stand behind its first line
abbrev pub item_at : List (List ℕ) → (index : ℕ) → Option (List ℕ)
item_at section index = slice_get (drop 1 (kept section)) index

-- a number below 2^32
abbrev pub is_count : Option ℕ → Bool
is_count None = false
is_count (Some count) = nat_lt count (2 ^ 32)

-- one such field behind the first
abbrev pub is_schedule_line : List (List ℕ) → Bool
is_schedule_line [] = false
is_schedule_line (word ∷ []) = false
is_schedule_line (word ∷ count ∷ []) = is_count (number_of count)
is_schedule_line (word ∷ count ∷ next ∷ fields) = false

abbrev pub is_well : Option (List ℕ) → Bool
is_well None = false
is_well (Some line) = is_schedule_line (fields_of line)

-- a schedule section begins with the line `schedule N`
abbrev pub begins_well : List (List ℕ) → Bool
begins_well section = is_well (slice_get section 0)
