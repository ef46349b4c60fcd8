-- Numbers of the assembler.
use Rattle.std.specs.Prelude.{ℕ, ◌+◌, ◌^◌, min, negsuc, List, [], ◌∷◌, length, Option, Some, None, Result, Ok, Err, ℤ, pos, neg_ℤ, int_le, nat_le, ◌==◌, ◌&&◌, if◌then◌else◌}
use Rattle.std.specs.Option.{option_map, ok_or}
use Rattle.std.specs.Int.{int_rem_euclid}
use Rattle.std.specs.Prelude.{unsigned_abs}
use Rattle.text_parts.specs.Numbers.{numeral_of}
use Rattle.rv_asm.specs.declared.refusal.Rule.{Rule}
use Rattle.rv_asm.specs.declared.refusal.Rule.TheVariants.{BadForm, NumberRange}
use Rattle.rv_asm.specs.Steps.{◌>>=◌}

-- 1 to 8 hexadecimal digits
abbrev pub hex_of : List ℕ → Option ℕ
hex_of digits = if nat_le (length digits) 8 then numeral_of 16 digits else None

-- the digits after 0x
abbrev pub hex_digits_of : List ℕ → Option (List ℕ)
hex_digits_of [] = None
hex_digits_of (a ∷ []) = None
hex_digits_of (a ∷ b ∷ digits) = if a == 48 && b == 120 then Some digits else None

-- the digits after '-'
abbrev pub negative_digits_of : List ℕ → Option (List ℕ)
negative_digits_of [] = None
negative_digits_of (a ∷ digits) = if a == 45 then Some digits else None

abbrev pub negative : ℕ → ℤ
negative n = neg_ℤ (pos n)

-- a decimal number, where its digits after a '-' are these, if it has one
abbrev pub decimal_of : List ℕ → Option (List ℕ) → Option ℤ
decimal_of text (Some digits) = option_map negative (numeral_of 10 digits)
decimal_of text None = option_map pos (numeral_of 10 text)

-- a number, where its digits after 0x are these, if it begins so
abbrev pub number_by : List ℕ → Option (List ℕ) → Option ℤ
number_by text (Some digits) = option_map pos (hex_of digits)
number_by text None = decimal_of text (negative_digits_of text)

-- decimal with an optional '-', or 0x and hexadecimal digits
abbrev pub number_of : List ℕ → Option ℤ
number_of text = number_by text (hex_digits_of text)

-- a number from low to high
abbrev pub within : ℤ → ℤ → ℤ → Result ℤ Rule
within low high v = if int_le low v && int_le v high then Ok v else Err NumberRange

-- the number that a text stands for, which must be from low to high
abbrev pub ranged : ℤ → ℤ → List ℕ → Result ℤ Rule
ranged low high text = do
  v ← ok_or (number_of text) BadForm
  within low high v

-- modulo 2 ^ 32
abbrev pub modulo32 : ℤ → ℕ
modulo32 v = unsigned_abs (int_rem_euclid v (pos (2 ^ 32)))

-- the number, cut off at 2 ^ 40 on either side
abbrev pub cut_off : ℤ → ℤ
cut_off (pos n) = pos (min (2 ^ 40) n)
cut_off (negsuc n) = neg_ℤ (pos (min (2 ^ 40) (n + 1)))
