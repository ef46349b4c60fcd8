-- A line by its shape: in a shape `#` stands for a number, and each other byte for itself.
use Rattle.std.specs.Prelude.{ℕ, zero, suc, ◌==◌, ◌&&◌, nat_le, Bool, not, if◌then◌else◌, List, [], ◌∷◌, Option, Some, None, option_map}
use Rattle.std.specs.Option.{option_and_then, option_map_or}
use Rattle.std.specs.Str.{bytes_eq}
use Rattle.std.specs.Fmt.{decimal}
use Rattle.text_parts.specs.Lines.{before, from}
use Rattle.entry_lines.specs.Guess.{number_after}

-- no decimal digit
abbrev pub is_other : ℕ → Bool
is_other b = not (nat_le 48 b && nat_le b 57)

-- The number below 2^64 that is printed like this: no other than what 64 bits keep of the digits can be.
abbrev pub number_of : List ℕ → Option ℕ
number_of digits = if bytes_eq (decimal (number_after 0 digits)) digits then Some (number_after 0 digits) else None

-- the number that was read last, and the text that is left
abbrev pub Left : Type 0
Left = ℕ × List ℕ

abbrev pub past_number : List ℕ → Option Left
past_number text = option_map (λ n. (n, from is_other text)) (number_of (before is_other text))

abbrev pub past_byte : ℕ → ℕ → List ℕ → Option Left
past_byte byte last [] = None
past_byte byte last (b ∷ bs) = if b == byte then Some (last, bs) else None

abbrev pub past_sign : ℕ → Left → Option Left
past_sign sign left = if sign == 35 then past_number left.1 else past_byte sign left.0 left.1

abbrev pub past : List ℕ → Left → Option Left
past [] left = Some left
past (sign ∷ signs) left = option_and_then (past signs) (past_sign sign left)

-- the last number of a line of this shape, and the text behind the line, if the text begins with one
abbrev pub behind_line : List ℕ → List ℕ → Option Left
behind_line shape text = past shape (0, text)

-- the text behind a line of one of these shapes
abbrev pub behind_one : List (List ℕ) → List ℕ → Option (List ℕ)
behind_one [] text = None
behind_one (shape ∷ shapes) text = option_map_or (λ (left : Left). Some left.1) (behind_line shape text) (behind_one shapes text)

-- the text behind a number of such parts
abbrev pub behind_count : (List ℕ → Option (List ℕ)) → ℕ → List ℕ → Option (List ℕ)
behind_count part zero text = Some text
behind_count part (suc n) text = option_and_then (behind_count part n) (part text)

-- the text behind all such parts in front of it, of which there are at most so many
abbrev pub behind_most : (List ℕ → Option (List ℕ)) → ℕ → List ℕ → List ℕ
behind_most part zero text = text
behind_most part (suc n) text = option_map_or (behind_most part n) (part text) text
