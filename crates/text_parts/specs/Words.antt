-- Words as hexadecimal digits.
use Rattle.std.specs.Prelude.{ℕ, ◌+◌, ◌/◌, ◌%◌, ◌^◌, List, [], ◌∷◌, nat_lt, if◌then◌else◌}

-- a hexadecimal digit in lower case
abbrev pub digit_of : ℕ → ℕ
digit_of d = if nat_lt d 10 then 48 + d else 87 + d

-- the eight hexadecimal digits of a word
abbrev pub digits_of : ℕ → List ℕ
digits_of w =
    digit_of (w / 2 ^ 28 % 16) ∷ digit_of (w / 2 ^ 24 % 16) ∷ digit_of (w / 2 ^ 20 % 16) ∷ digit_of (w / 2 ^ 16 % 16)
    ∷ digit_of (w / 2 ^ 12 % 16) ∷ digit_of (w / 2 ^ 8 % 16) ∷ digit_of (w / 2 ^ 4 % 16) ∷ digit_of (w % 16) ∷ []

-- a space, and a word
abbrev pub spaced : ℕ → List ℕ
spaced w = 32 ∷ digits_of w
