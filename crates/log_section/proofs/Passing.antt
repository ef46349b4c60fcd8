-- A line that is printed by its shape is passed.
use Rattle.std.proofs.Common.{eqb, ◌≡◌, ℕ, ◌<◌, ◌&&◌, nat_le, Bool, true, false, not, List, [], ◌∷◌, ◌++◌, length, Some, None, refl, sym, ap, ◌∙◌, arith, append_assoc, true≢false}
use Rattle.std.specs.Option.{option_map, option_and_then}
use Rattle.std.specs.Str.{bytes_eq}
use Rattle.std.specs.Fmt.{decimal}
use Rattle.std.specs.Char.{digit_value}
use Rattle.std.specs.Str.Parse.{AllDigits}
use Rattle.std.proofs.lemmas.Fmt.{decimal_is_IsNumeral}
use Rattle.std.proofs.lemmas.Str.Parse.{digit_from_value}
use Rattle.std.proofs.lemmas.Bool.{eqb-true, le-leb}
use Rattle.std.proofs.lemmas.Slice.Eq.{bytes_eq-Decides}
use Rattle.text_parts.specs.Lines.{from}
use Rattle.entry_lines.specs.Told.{IsSmall}
use Rattle.entry_lines.specs.Guess.{number_after}
use Rattle.entry_lines.proofs.Words.{Without, before_first, from_first, read_decimal}
use Rattle.log_section.specs.Lines.{is_other, number_of, past_number, past_byte, past}

-- ---- a number in front of a text

digit_is : (x : ℕ) → digit_value x < 10 → is_other x ≡ false
digit_is x h =
    let range = digit_from_value x h in
    ap (λ (b : Bool). not (b && nat_le x 57)) (le-leb 48 x range.0) ∙ ap not (le-leb x 57 range.1)

digits_are : (ds : List ℕ) → AllDigits 10 ds → Without is_other ds
digits_are [] h = tt
digits_are (d ∷ ds) h = (digit_is d h.0, digits_are ds h.1)

own_number : (n : ℕ) → IsSmall n → number_of (decimal n) ≡ Some n
own_number n small =
    let same = read_decimal n small in
    let printed : bytes_eq (decimal (number_after 0 (decimal n))) (decimal n) ≡ true = (bytes_eq-Decides (decimal (number_after 0 (decimal n))) (decimal n)).1 (ap decimal same) in
    rw printed (ap Some same)

number_first : (n c : ℕ) (more : List ℕ) → IsSmall n → is_other c ≡ true → past_number (decimal n ++ c ∷ more) ≡ Some (n, c ∷ more)
number_first n c more small other =
    let digits = digits_are (decimal n) (decimal_is_IsNumeral n small).0.1 in
    ap (λ (ds : List ℕ). option_map (λ (m : ℕ). (m, from is_other (decimal n ++ c ∷ more))) (number_of ds)) (before_first is_other (decimal n) c more digits other)
    ∙ ap (λ (rest : List ℕ). option_map (λ (m : ℕ). (m, rest)) (number_of (decimal n))) (from_first is_other (decimal n) c more digits other)
    ∙ ap (option_map (λ (m : ℕ). (m, c ∷ more))) (own_number n small)

-- behind a number that another sign follows
pub number_followed : (signs : List ℕ) (last n c : ℕ) (more : List ℕ) → IsSmall n → is_other c ≡ true → past (35 ∷ signs) (last, decimal n ++ c ∷ more) ≡ past signs (n, c ∷ more)
number_followed signs last n c more small other = ap (option_and_then (past signs)) (number_first n c more small other)

-- the same where the text behind is put to it later
pub number_past : (signs : List ℕ) (last n c : ℕ) (tail more : List ℕ) → IsSmall n → is_other c ≡ true → past (35 ∷ signs) (last, (decimal n ++ c ∷ tail) ++ more) ≡ past signs (n, c ∷ (tail ++ more))
number_past signs last n c tail more small other =
    ap (λ (text : List ℕ). past (35 ∷ signs) (last, text)) (append_assoc (decimal n) (c ∷ tail) more) ∙ number_followed signs last n c (tail ++ more) small other

-- a sign that is no digit is not passed by a number
no_sign : (sign last : ℕ) (ds more : List ℕ) → 0 < length ds → AllDigits 10 ds → is_other sign ≡ true → past_byte sign last (ds ++ more) ≡ None
no_sign sign last [] more some digits other = absurd (omega (arith, some))
no_sign sign last (d ∷ ds) more some digits other = by_sign (eqb d sign) refl
  where
    by_sign : (b : Bool) → eqb d sign ≡ b → past_byte sign last (d ∷ (ds ++ more)) ≡ None
    by_sign true e = absurd (true≢false (sym other ∙ ap is_other (sym (eqb-true d sign e)) ∙ digit_is d digits.0))
    by_sign false e = rw e refl

pub no_number : (sign : ℕ) (signs : List ℕ) (last n : ℕ) (more : List ℕ) → IsSmall n → is_other sign ≡ true → eqb sign 35 ≡ false → past (sign ∷ signs) (last, decimal n ++ more) ≡ None
no_number sign signs last n more small other plain =
    let numeral = (decimal_is_IsNumeral n small).0 in
    rw plain (ap (option_and_then (past signs)) (no_sign sign last (decimal n) more numeral.0 numeral.1 other))
