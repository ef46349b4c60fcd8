-- A text that is put together from lines and fields has these lines and fields.
use Rattle.std.proofs.Common.{eqb, ◌≡◌, ℕ, ◌^◌, ◌<◌, ◌≤◌, Bool, true, false, not, List, [], ◌∷◌, ◌++◌, length, refl, ap, arith}
use Rattle.std.specs.List.{slice_split, onto_first, filter}
use Rattle.std.specs.Char.{digit_value}
use Rattle.std.specs.Str.Parse.{AllDigits}
use Rattle.std.specs.Fmt.{decimal}
use Rattle.std.proofs.lemmas.Fmt.{decimal_is_IsNumeral}
use Rattle.std.proofs.lemmas.Bool.{eqb-true}
use Rattle.text_parts.specs.Lines.{is_newline, is_space, is_empty, lines_of, fields_of}

-- no byte passes
abbrev pub Without : (ℕ → Bool) → List ℕ → Type 0
Without p [] = Unit {0}
Without p (x ∷ xs) = (p x ≡ false) × Without p xs

pub without-append : (p : ℕ → Bool) (xs ys : List ℕ) → Without p xs → Without p ys → Without p (xs ++ ys)
without-append p [] ys h g = g
without-append p (x ∷ xs) ys h g = (h.0, without-append p xs ys h.1 g)

-- ---- lines

pub line_ended : (line more : List ℕ) → Without is_newline line → lines_of (line ++ 10 ∷ more) ≡ line ∷ lines_of more
line_ended [] more h = refl
line_ended (x ∷ xs) more h = rw h.0 (ap (onto_first x) (line_ended xs more h.1))

-- ---- fields

abbrev some_of : List (List ℕ) → List (List ℕ)
some_of parts = filter (λ part. not (is_empty part)) parts

parts_spaced : (field more : List ℕ) → Without is_space field → slice_split is_space (field ++ 32 ∷ more) ≡ field ∷ slice_split is_space more
parts_spaced [] more h = refl
parts_spaced (x ∷ xs) more h = rw h.0 (ap (onto_first x) (parts_spaced xs more h.1))

parts_last : (field : List ℕ) → Without is_space field → slice_split is_space field ≡ field ∷ []
parts_last [] h = refl
parts_last (x ∷ xs) h = rw h.0 (ap (onto_first x) (parts_last xs h.1))

-- a field, a space, and what follows
pub field_spaced : (field more : List ℕ) → 0 < length field → Without is_space field → fields_of (field ++ 32 ∷ more) ≡ field ∷ fields_of more
field_spaced [] more some h = absurd (omega arith)
field_spaced (x ∷ xs) more some h = ap some_of (parts_spaced (x ∷ xs) more h)

-- the last field
pub field_last : (field : List ℕ) → 0 < length field → Without is_space field → fields_of field ≡ field ∷ []
field_last [] some h = absurd (omega arith)
field_last (x ∷ xs) some h = ap some_of (parts_last (x ∷ xs) h)

-- ---- numbers

other_than : (b x : ℕ) → 10 ≤ digit_value b → digit_value x < 10 → (t : Bool) → eqb x b ≡ t → t ≡ false
other_than b x other digit true e =
    let same : digit_value x ≡ digit_value b = ap digit_value (eqb-true x b e) in
    absurd (omega (arith, same, other, digit))
other_than b x other digit false e = refl

digits_without : (b : ℕ) → 10 ≤ digit_value b → (digits : List ℕ) → AllDigits 10 digits → Without (λ x. eqb x b) digits
digits_without b other [] h = tt
digits_without b other (x ∷ xs) h = (other_than b x other h.0 (eqb x b) refl, digits_without b other xs h.1)

pub number_without_space : (n : ℕ) → n < 2 ^ 64 → Without is_space (decimal n)
number_without_space n lt = digits_without 32 (omega arith) (decimal n) (decimal_is_IsNumeral n lt).0.1

pub number_without_newline : (n : ℕ) → n < 2 ^ 64 → Without is_newline (decimal n)
number_without_newline n lt = digits_without 10 (omega arith) (decimal n) (decimal_is_IsNumeral n lt).0.1

pub number_some : (n : ℕ) → n < 2 ^ 64 → 0 < length (decimal n)
number_some n lt = (decimal_is_IsNumeral n lt).0.0
