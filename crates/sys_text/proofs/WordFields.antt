-- The digits of a word one by one are those of its definition.
use Rattle.std.proofs.Common.{◌≡◌, ℕ, ◌/◌, ◌^◌, List, [], ◌∷◌, ◌++◌, refl, ap, ◌∙◌, arith}
use Rattle.std.specs.List.{flat_map}
use Rattle.text_parts.specs.Words.{digits_of, spaced}
use Rattle.sys_text.specs.Text.{word_text}

one_down : (n : ℕ) → n / 2 ^ 4 ≡ n / 16
one_down n = omega arith

two_down : (n : ℕ) → n / 2 ^ 8 ≡ n / 16 / 16
two_down n = omega arith

three_down : (n : ℕ) → n / 2 ^ 12 ≡ n / 16 / 16 / 16
three_down n = omega arith

four_down : (n : ℕ) → n / 2 ^ 16 ≡ n / 16 / 16 / 16 / 16
four_down n = omega arith

five_down : (n : ℕ) → n / 2 ^ 20 ≡ n / 16 / 16 / 16 / 16 / 16
five_down n = omega arith

six_down : (n : ℕ) → n / 2 ^ 24 ≡ n / 16 / 16 / 16 / 16 / 16 / 16
six_down n = omega arith

seven_down : (n : ℕ) → n / 2 ^ 28 ≡ n / 16 / 16 / 16 / 16 / 16 / 16 / 16
seven_down n = omega arith

digits_are : (w : ℕ) → digits_of w ≡ word_text w
unfolding word_text
digits_are w = rw (one_down w, two_down w, three_down w, four_down w, five_down w, six_down w, seven_down w) refl

-- words after spaces
pub fields_are : (ws : List ℕ) → flat_map spaced ws ≡ flat_map (λ w. 32 ∷ word_text w) ws
fields_are [] = refl
fields_are (w ∷ ws) = ap (λ ds. 32 ∷ ds ++ flat_map spaced ws) (digits_are w) ∙ ap (λ rest. (32 ∷ word_text w) ++ rest) (fields_are ws)
