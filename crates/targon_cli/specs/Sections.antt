-- The two parts of an input: a system text, and the section behind it.
use Rattle.std.specs.Prelude.{ℕ, ◌≡◌, ◌+◌, Bool, false, if◌then◌else◌, not, List, [], ◌∷◌, ◌++◌, take, drop, filter, map, codes, Result}
use Rattle.std.specs.Str.{bytes_eq}
use Rattle.text_parts.specs.Lines.{fields_of, lines_of}
use Rattle.plain_kernel.specs.declared.item.Item.{Item}
use Rattle.cert_sched.specs.Lines.{is_skipped}
use Rattle.cert_sched.specs.Reading.{header_of, reading_after}

-- the first of these fields is the word
abbrev pub has_first : List ℕ → List (List ℕ) → Bool
has_first word [] = false
has_first word (field ∷ fields) = bytes_eq field word

-- a section begins with the first line whose first field is its word
abbrev pub begins_section : List ℕ → List ℕ → Bool
begins_section word line = has_first word (fields_of line)

-- how many lines stand before the first such line; all, where there is none
abbrev pub lines_before_section : List ℕ → List (List ℕ) → ℕ
lines_before_section word [] = 0
lines_before_section word (line ∷ lines) = if begins_section word line then 0 else lines_before_section word lines + 1

-- the lines before the section
abbrev pub lines_before : List ℕ → List (List ℕ) → List (List ℕ)
lines_before word lines = take (lines_before_section word lines) lines

-- the lines of the section, which are none where it is not there
abbrev pub lines_from : List ℕ → List (List ℕ) → List (List ℕ)
lines_from word lines = drop (lines_before_section word lines) lines

-- A text is cut into these two: one has the lines before the section, and the other those of the section. No other two are.
pub record IsCutAt (word text front section : List ℕ) : Type 0 where
  pub whole : front ++ section ≡ text
  pub before : lines_of front ≡ lines_before word (lines_of text)
  pub behind : lines_of section ≡ lines_from word (lines_of text)

-- the lines of the system text of `plain`
abbrev pub system_part : List (List ℕ) → List (List ℕ)
system_part lines = lines_before (codes "schedule") lines

-- and those of its schedule section
abbrev pub section_part : List (List ℕ) → List (List ℕ)
section_part lines = lines_from (codes "schedule") lines

-- the items of a section, or the index of the first that cannot be read
abbrev pub items_of_lines : List (List ℕ) → Result (List Item) ℕ
items_of_lines lines = reading_after (header_of (filter (λ fields. not (is_skipped fields)) (map fields_of lines)))
