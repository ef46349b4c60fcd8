-- A line of the input as it is shown to a person.
use Rattle.std.specs.Prelude.{ℕ, List, ◌++◌, length, take, map, codes, nat_le, if◌then◌else◌, Option, option_map}
use Rattle.text_parts.specs.Lines.{is_printable}

-- the most bytes of a line that are shown
abbrev pub most_shown : ℕ
most_shown = 100

-- a byte outside 0x20 to 0x7E is shown as `?`
abbrev pub visible : ℕ → ℕ
visible b = if is_printable b then b else 63

abbrev pub dots : List ℕ → List ℕ
dots line = if nat_le (length line) most_shown then codes "" else codes " .."

abbrev pub shown : List ℕ → List ℕ
shown line = map visible (take most_shown line) ++ dots line

-- a line that is there is shown
abbrev pub shown_where : Option (List ℕ) → Option (List ℕ)
shown_where line = option_map shown line
