-- Numbers in a text.
use Rattle.std.specs.Prelude.{ℕ, ◌+◌, ◌*◌, Bool, not, List, [], ◌∷◌, length, Option, Some, None, ◌==◌, nat_lt, nat_le, ◌&&◌, if◌then◌else◌}
use Rattle.std.specs.List.{list_all}
use Rattle.text_parts.specs.Lines.{is_empty}
use Rattle.std.specs.Char.{is_digit, digit_value}
use Rattle.std.specs.Str.Parse.{digits_value}

abbrev pub are_digits : ℕ → List ℕ → Bool
are_digits radix t = list_all (λ c. is_digit c radix) t

-- what the digits stand for, of which there is at least one; None where another byte stands among them
abbrev pub numeral_of : ℕ → List ℕ → Option ℕ
numeral_of radix t = if not (is_empty t) && are_digits radix t then Some (digits_value radix t) else None

-- a number: 1 to 10 decimal digits, leading zeros allowed
abbrev pub number_of : List ℕ → Option ℕ
number_of t = if nat_le (length t) 10 then numeral_of 10 t else None

-- a word: eight hexadecimal digits, either case
abbrev pub word_of : List ℕ → Option ℕ
word_of t = if length t == 8 then numeral_of 16 t else None

-- ---- eight digits read with one test

-- what a byte counts as: a hexadecimal digit as itself, another byte as 2 ^ 35, which is more than eight digits stand for
abbrev pub digit_or_more : ℕ → ℕ
digit_or_more c = if nat_lt (digit_value c) 16 then digit_value c else 34359738368

-- what bytes count as together, when they follow those of n
abbrev pub digits_or_more_after : ℕ → List ℕ → ℕ
digits_or_more_after n [] = n
digits_or_more_after n (c ∷ cs) = digits_or_more_after (n * 16 + digit_or_more c) cs
