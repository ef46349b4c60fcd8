-- A word that stands after one space is the first field of its line.
use Rattle.std.proofs.Common.{◌≡◌, ℕ, ◌-◌, ◌≤◌, Bool, true, false, List, [], ◌∷◌, ◌++◌, length, get_or, take, drop, Some, refl, sym, ap, ◌∙◌, arith}
use Rattle.std.specs.Prelude.{codes}
use Rattle.std.specs.List.{list_all}
use Rattle.std.specs.Char.{is_digit}
use Rattle.std.proofs.lemmas.Bool.{eqb-true, and_parts}
use Rattle.std.proofs.lemmas.List.{take_rest, take-append-drop, length-take, length-drop}
use Rattle.text_parts.specs.Lines.{is_space, fields_of, before, from, trim_start}
use Rattle.text_parts.specs.Numbers.{are_digits, numeral_of, word_of}
use Rattle.text_parts.proofs.Numerals.{word_from_numeral}
use Rattle.text_parts.proofs.Splitting.{before-yes, before-no, from-yes, from-no, fields_of-first, fields_of-trimmed}
use Rattle.sys_text.specs.WordLines.{FirstWord}

-- a hexadecimal digit is no space
digit_no_space : (x : ℕ) → is_digit x 16 ≡ true → is_space x ≡ false
digit_no_space x h = by_test (is_space x) refl
  where
    by_test : (b : Bool) → is_space x ≡ b → is_space x ≡ false
    by_test true e = let s = rw (eqb-true x 32 e) at h in absurd cc
    by_test false e = e

-- digits end at the first space after them
cut_after : (field rest : List ℕ) → are_digits 16 field ≡ true → list_all is_space (take 1 rest) ≡ true → (before is_space (field ++ rest) ≡ field) × (from is_space (field ++ rest) ≡ rest)
cut_after [] [] digits ends = (refl, refl)
cut_after [] (y ∷ ys) digits ends = let space : is_space y ≡ true = (and_parts (is_space y) true ends).0 in (before-yes is_space y ys space, from-yes is_space y ys space)
cut_after (x ∷ xs) rest digits ends =
    let parts = and_parts (is_digit x 16) (are_digits 16 xs) digits in
    let other = digit_no_space x parts.0 in
    let next = cut_after xs rest parts.1 ends in
    (before-no is_space x (xs ++ rest) other ∙ ap (λ (t : List ℕ). x ∷ t) next.0, from-no is_space x (xs ++ rest) other ∙ next.1)

-- what stands for a number are digits
digits_of : (x : ℕ) (xs : List ℕ) (v : ℕ) → numeral_of 16 (x ∷ xs) ≡ Some v → are_digits 16 (x ∷ xs) ≡ true
digits_of x xs v e = by_digits (are_digits 16 (x ∷ xs)) refl
  where
    by_digits : (b : Bool) → are_digits 16 (x ∷ xs) ≡ b → are_digits 16 (x ∷ xs) ≡ true
    by_digits true d = d
    by_digits false d = let s = rw d at e in absurd cc

-- a word after a space is the first field
word_field : (field rest : List ℕ) (v : ℕ) → length field ≡ 8 → word_of field ≡ Some v → list_all is_space (take 1 rest) ≡ true → fields_of (32 ∷ (field ++ rest)) ≡ field ∷ fields_of rest
word_field [] rest v size e ends = absurd (omega (arith, size))
word_field (x ∷ xs) rest v size e ends =
    let digits = digits_of x xs v (word_from_numeral (x ∷ xs) size ∙ e) in
    let cut = cut_after (x ∷ xs) rest digits ends in
    let first = fields_of-first x (xs ++ rest) (digit_no_space x (and_parts (is_digit x 16) (are_digits 16 xs) digits).0) in
    first ∙ ap (λ (t : List ℕ). t ∷ fields_of (from is_space (x ∷ (xs ++ rest)))) cut.0 ∙ ap (λ (t : List ℕ). (x ∷ xs) ∷ fields_of t) cut.1

-- `words` ends there too, and is the first field of its line
pub words_first : (rest : List ℕ) → list_all is_space (take 1 rest) ≡ true → fields_of (119 ∷ 111 ∷ 114 ∷ 100 ∷ 115 ∷ rest) ≡ codes "words" ∷ fields_of rest
words_first rest ends =
    let cut = cut_after [] rest refl ends in
    fields_of-first 119 (111 ∷ 114 ∷ 100 ∷ 115 ∷ rest) refl
    ∙ ap (λ (t : List ℕ). (119 ∷ 111 ∷ 114 ∷ 100 ∷ 115 ∷ t) ∷ fields_of (from is_space rest)) cut.0
    ∙ ap (λ (t : List ℕ). codes "words" ∷ fields_of t) cut.1

-- the same of a line behind its spaces, cut behind the word
pub words_in_front : (line text rest : List ℕ) → text ≡ trim_start line → 5 ≤ length text → get_or text 0 0 ≡ 119 → get_or text 1 0 ≡ 111 → get_or text 2 0 ≡ 114 → get_or text 3 0 ≡ 100 → get_or text 4 0 ≡ 115
    → rest ≡ take (length text - 5) (drop 5 text) → list_all is_space (take 1 rest) ≡ true → fields_of line ≡ codes "words" ∷ fields_of rest
words_in_front line [] rest _ long _ _ _ _ _ _ _ = absurd (omega (arith, long))
words_in_front line (x0 ∷ []) rest _ long _ _ _ _ _ _ _ = absurd (omega (arith, long))
words_in_front line (x0 ∷ x1 ∷ []) rest _ long _ _ _ _ _ _ _ = absurd (omega (arith, long))
words_in_front line (x0 ∷ x1 ∷ x2 ∷ []) rest _ long _ _ _ _ _ _ _ = absurd (omega (arith, long))
words_in_front line (x0 ∷ x1 ∷ x2 ∷ x3 ∷ []) rest _ long _ _ _ _ _ _ _ = absurd (omega (arith, long))
words_in_front line (x0 ∷ x1 ∷ x2 ∷ x3 ∷ x4 ∷ xs) rest is long a b c d e back ends =
    let back_is : rest ≡ xs = back ∙ take_rest (x0 ∷ x1 ∷ x2 ∷ x3 ∷ x4 ∷ xs) 5 in
    fields_of-trimmed line ∙ ap fields_of (sym is) ∙ rw (a, b, c, d, e, ← back_is) (words_first rest ends)

-- a line from its second byte on
tail : (x : ℕ) (xs : List ℕ) → take (length (x ∷ xs) - 1) (drop 1 (x ∷ xs)) ≡ xs
tail x xs = take_rest (x ∷ xs) 1

-- the same of a line that is cut behind the word
pub first_in_line : (line field rest : List ℕ) (v : ℕ) → 1 ≤ length line → get_or line 0 0 ≡ 32 → 8 ≤ length (take (length line - 1) (drop 1 line))
    → field ≡ take 8 (take (length line - 1) (drop 1 line)) → rest ≡ drop 8 (take (length line - 1) (drop 1 line)) → word_of field ≡ Some v → list_all is_space (take 1 rest) ≡ true → FirstWord line (Some v) rest
first_in_line [] field rest v some space long front back e ends = absurd (omega (arith, some))
first_in_line (x ∷ xs) field rest v some space long front back e ends =
    let text = tail x xs in
    let front_is : field ≡ take 8 xs = front ∙ ap (take 8) text in
    let back_is : rest ≡ drop 8 xs = back ∙ ap (drop 8) text in
    let many : 8 ≤ length xs = rw text at long in
    let size : length field ≡ 8 = omega (arith, ap length front_is, length-take 8 xs, many) in
    let whole : field ++ rest ≡ xs = rw (front_is, back_is) (take-append-drop 8 xs) in
    record {
      field = field;
      fields = ap (λ (y : ℕ). fields_of (y ∷ xs)) space ∙ ap (λ (t : List ℕ). fields_of (32 ∷ t)) (sym whole) ∙ word_field field rest v size e ends;
      value_is = e;
      shorter = omega (arith, ap length back_is, length-drop 8 xs, many);
    }
