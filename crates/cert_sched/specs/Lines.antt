-- The lines of a schedule section that are not skipped.
use Rattle.std.specs.Prelude.{ℕ, Bool, true, false, not, List, [], ◌∷◌, map, ◌==◌}
use Rattle.std.specs.List.{filter}
use Rattle.text_parts.specs.Lines.{lines_of, fields_of}

-- the first byte of a field is `#`
abbrev pub begins_comment : List ℕ → Bool
begins_comment [] = false
begins_comment (b ∷ bs) = b == 35

-- A line with these fields is skipped: it has none, or its first byte that is no space is `#`.
abbrev pub is_skipped : List (List ℕ) → Bool
is_skipped [] = true
is_skipped (field ∷ fields) = begins_comment field

-- the fields of each line of a text that is not skipped
abbrev pub kept_lines : List ℕ → List (List (List ℕ))
kept_lines text = filter (λ fields. not (is_skipped fields)) (map fields_of (lines_of text))
