-- Eight hexadecimal digits, read with one test for all.
use Rattle.std.proofs.Common.{◌≡◌, ℕ, ◌+◌, ◌*◌, ◌^◌, ◌<◌, ◌≤◌, Bool, true, false, List, [], ◌∷◌, length, get_or, Some, None, refl, sym, ap, ◌∙◌, arith}
use Rattle.std.specs.Char.{is_digit, digit_value}
use Rattle.std.specs.Str.Parse.{digits_value, digits_value_after}
use Rattle.std.proofs.lemmas.Bool.{and_parts}
use Rattle.text_parts.specs.Numbers.{are_digits, numeral_of, word_of, digit_or_more, digits_or_more_after}
use Rattle.text_parts.proofs.Numerals.{no_numeral, digits_fit, word_from_numeral}

-- digits count as what they stand for
counted_digits : (n : ℕ) (cs : List ℕ) → are_digits 16 cs ≡ true → digits_or_more_after n cs ≡ digits_value_after 16 n cs
counted_digits n [] e = refl
counted_digits n (c ∷ cs) e =
    let parts = and_parts (is_digit c 16) (are_digits 16 cs) e in
    let one : digit_or_more c ≡ digit_value c = rw (parts.0) refl in
    ap (λ (k : ℕ). digits_or_more_after (n * 16 + k) cs) one ∙ counted_digits (n * 16 + digit_value c) cs parts.1

-- what is too large stays too large
stays_more : (n : ℕ) (cs : List ℕ) → 34359738368 ≤ n → 34359738368 ≤ digits_or_more_after n cs
stays_more n [] h = h
stays_more n (c ∷ cs) h = stays_more (n * 16 + digit_or_more c) cs (omega (arith, h))

-- a byte that is no digit makes it too large
no_digit_more : (n : ℕ) (cs : List ℕ) → are_digits 16 cs ≡ false → 34359738368 ≤ digits_or_more_after n cs
no_digit_more n [] e = absurd cc
no_digit_more n (c ∷ cs) e = by_digit (λ m rest. no_digit_more m cs rest) (is_digit c 16) refl
  where
    by_digit : ((m : ℕ) → are_digits 16 cs ≡ false → 34359738368 ≤ digits_or_more_after m cs) → (b : Bool) → is_digit c 16 ≡ b → 34359738368 ≤ digits_or_more_after n (c ∷ cs)
    by_digit next true d = let rest = rw d at e in next (n * 16 + digit_or_more c) rest
    by_digit next false d =
        let one : digit_or_more c ≡ 34359738368 = rw d refl in
        stays_more (n * 16 + digit_or_more c) cs (omega (arith, one))

-- four bytes and four more
two_fours : (a b c d e f g h : ℕ) → ((((0 * 16 + a) * 16 + b) * 16 + c) * 16 + d) * 65536 + ((((0 * 16 + e) * 16 + f) * 16 + g) * 16 + h) ≡ (((((((0 * 16 + a) * 16 + b) * 16 + c) * 16 + d) * 16 + e) * 16 + f) * 16 + g) * 16 + h
two_fours a b c d e f g h = omega arith

pub counted_eight : (ws : List ℕ) (high low : ℕ) → 8 ≤ length ws → length ws < 9 → high ≡ digits_or_more_after 0 (get_or ws 0 0 ∷ get_or ws 1 0 ∷ get_or ws 2 0 ∷ get_or ws 3 0 ∷ []) → low ≡ digits_or_more_after 0 (get_or ws 4 0 ∷ get_or ws 5 0 ∷ get_or ws 6 0 ∷ get_or ws 7 0 ∷ [])
    → high * 65536 + low ≡ digits_or_more_after 0 ws
counted_eight [] high low least below eh el = absurd (omega (arith, least, below))
counted_eight (w0 ∷ []) high low least below eh el = absurd (omega (arith, least, below))
counted_eight (w0 ∷ w1 ∷ []) high low least below eh el = absurd (omega (arith, least, below))
counted_eight (w0 ∷ w1 ∷ w2 ∷ []) high low least below eh el = absurd (omega (arith, least, below))
counted_eight (w0 ∷ w1 ∷ w2 ∷ w3 ∷ []) high low least below eh el = absurd (omega (arith, least, below))
counted_eight (w0 ∷ w1 ∷ w2 ∷ w3 ∷ w4 ∷ []) high low least below eh el = absurd (omega (arith, least, below))
counted_eight (w0 ∷ w1 ∷ w2 ∷ w3 ∷ w4 ∷ w5 ∷ []) high low least below eh el = absurd (omega (arith, least, below))
counted_eight (w0 ∷ w1 ∷ w2 ∷ w3 ∷ w4 ∷ w5 ∷ w6 ∷ []) high low least below eh el = absurd (omega (arith, least, below))
counted_eight (w0 ∷ w1 ∷ w2 ∷ w3 ∷ w4 ∷ w5 ∷ w6 ∷ w7 ∷ []) high low least below eh el =
    ap (λ (k : ℕ). k * 65536 + low) eh ∙ ap (λ (k : ℕ). digits_or_more_after 0 (w0 ∷ w1 ∷ w2 ∷ w3 ∷ []) * 65536 + k) el
    ∙ two_fours (digit_or_more w0) (digit_or_more w1) (digit_or_more w2) (digit_or_more w3) (digit_or_more w4) (digit_or_more w5) (digit_or_more w6) (digit_or_more w7)
counted_eight (w0 ∷ w1 ∷ w2 ∷ w3 ∷ w4 ∷ w5 ∷ w6 ∷ w7 ∷ w8 ∷ more) high low least below eh el = absurd (omega (arith, least, below))

-- what eight bytes count as is a word, where it is one of 32 bits
pub word_counted : (ws : List ℕ) (v : ℕ) → length ws ≡ 8 → v ≡ digits_or_more_after 0 ws → v < 4294967296 → Some v ≡ word_of ws
word_counted [] v size e small = absurd (omega (arith, size))
word_counted (x ∷ xs) v size e small = by_digits (are_digits 16 (x ∷ xs)) refl
  where
    by_digits : (b : Bool) → are_digits 16 (x ∷ xs) ≡ b → Some v ≡ word_of (x ∷ xs)
    by_digits true d =
        let is : v ≡ digits_value 16 (x ∷ xs) = e ∙ counted_digits 0 (x ∷ xs) d in
        let read : numeral_of 16 (x ∷ xs) ≡ Some v = rw d (ap Some (sym is)) in
        sym read ∙ word_from_numeral (x ∷ xs) size
    by_digits false d = absurd (omega (arith, no_digit_more 0 (x ∷ xs) d, e, small))

-- and else there is a byte that is no digit
pub word_uncounted : (ws : List ℕ) (v : ℕ) → length ws ≡ 8 → v ≡ digits_or_more_after 0 ws → 4294967296 ≤ v → None ≡ word_of ws
word_uncounted ws v size e large = by_digits (are_digits 16 ws) refl
  where
    by_digits : (b : Bool) → are_digits 16 ws ≡ b → None ≡ word_of ws
    by_digits true d =
        let fit : digits_value 16 ws < 16 ^ 8 = digits_fit 16 8 ws (omega arith) (omega (arith, size)) d in
        absurd (omega (arith, fit, e, counted_digits 0 ws d, large))
    by_digits false d = sym (no_numeral 16 ws d) ∙ word_from_numeral ws size
