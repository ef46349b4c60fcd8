-- Words and numbers as they are printed are read again.
use Rattle.std.proofs.Common.{eqb, ◌≡◌, ℕ, ◌+◌, ◌/◌, ◌%◌, ◌<◌, ◌≤◌, Bool, true, false, List, [], ◌∷◌, ◌++◌, drop, refl, ap, sym, ◌∙◌, arith, append_assoc}
use Rattle.std.specs.List.{flat_map}
use Rattle.std.specs.Char.{digit_value}
use Rattle.std.specs.Str.Parse.{AllDigits}
use Rattle.std.specs.Fmt.{decimal}
use Rattle.std.proofs.lemmas.Fmt.{decimal_is_IsNumeral, decimal_by_steps}
use Rattle.std.proofs.lemmas.Bool.{eqb-true}
use Rattle.text_parts.specs.Lines.{is_space, before, from}
use Rattle.entry_lines.specs.Guess.{word, after, with_digit, number_after, number, numbers_after, is_t}
use Rattle.entry_lines.specs.Told.{IsSmall, AllSmall}
use Rattle.entry_lines.specs.Text.{pids_text}

-- no byte passes
abbrev pub Without : (ℕ → Bool) → List ℕ → Type 0
Without p [] = Unit {0}
Without p (x ∷ xs) = (p x ≡ false) × Without p xs

pub without-append : (p : ℕ → Bool) (xs ys : List ℕ) → Without p xs → Without p ys → Without p (xs ++ ys)
without-append p [] ys h g = g
without-append p (x ∷ xs) ys h g = (h.0, without-append p xs ys h.1 g)

-- ---- cut at the first byte that passes

pub before_first : (p : ℕ → Bool) (xs : List ℕ) (y : ℕ) (ys : List ℕ) → Without p xs → p y ≡ true → before p (xs ++ y ∷ ys) ≡ xs
before_first p [] y ys h e = rw e refl
before_first p (x ∷ xs) y ys h e = rw h.0 (ap (λ (zs : List ℕ). x ∷ zs) (before_first p xs y ys h.1 e))

pub from_first : (p : ℕ → Bool) (xs : List ℕ) (y : ℕ) (ys : List ℕ) → Without p xs → p y ≡ true → from p (xs ++ y ∷ ys) ≡ y ∷ ys
from_first p [] y ys h e = rw e refl
from_first p (x ∷ xs) y ys h e = rw h.0 (from_first p xs y ys h.1 e)

pub before_none : (p : ℕ → Bool) (xs : List ℕ) → Without p xs → before p xs ≡ xs
before_none p [] h = refl
before_none p (x ∷ xs) h = rw h.0 (ap (λ (zs : List ℕ). x ∷ zs) (before_none p xs h.1))

pub word_spaced : (xs ys : List ℕ) → Without is_space xs → word (xs ++ 32 ∷ ys) ≡ xs
word_spaced xs ys h = before_first is_space xs 32 ys h refl

pub after_spaced : (xs ys : List ℕ) → Without is_space xs → after (xs ++ 32 ∷ ys) ≡ ys
after_spaced xs ys h = ap (drop 1) (from_first is_space xs 32 ys h refl)

-- ---- digits

other_than : (b x : ℕ) → 10 ≤ digit_value b → digit_value x < 10 → (t : Bool) → eqb x b ≡ t → t ≡ false
other_than b x other digit true e =
    let same : digit_value x ≡ digit_value b = ap digit_value (eqb-true x b e) in
    absurd (omega (arith, same, other, digit))
other_than b x other digit false e = refl

pub digits_without : (b : ℕ) → 10 ≤ digit_value b → (digits : List ℕ) → AllDigits 10 digits → Without (λ x. eqb x b) digits
digits_without b other [] h = tt
digits_without b other (x ∷ xs) h = (other_than b x other h.0 (eqb x b) refl, digits_without b other xs h.1)

pub clean : (n : ℕ) → IsSmall n → Without is_space (decimal n)
clean n lt = digits_without 32 (omega arith) (decimal n) (decimal_is_IsNumeral n lt).0.1

clean_t : (n : ℕ) → IsSmall n → Without is_t (decimal n)
clean_t n lt = digits_without 116 (omega arith) (decimal n) (decimal_is_IsNumeral n lt).0.1

-- ---- numbers

number_more : (n : ℕ) (ds : List ℕ) (b : ℕ) → number_after n (ds ++ b ∷ []) ≡ with_digit (number_after n ds) b
number_more n [] b = refl
number_more n (d ∷ ds) b = number_more (with_digit n d) ds b

abbrev IsRead : ℕ → List ℕ → Type 0
IsRead n ds = IsSmall n → number_after 0 ds ≡ n

read_one : (n : ℕ) → n < 10 → IsRead n ((48 + n) ∷ [])
read_one n lt small = omega arith

last_digit : (n : ℕ) → IsSmall n → with_digit (n / 10) (48 + n % 10) ≡ n
last_digit n small = omega arith

read_more : (n : ℕ) (ds : List ℕ) → 10 ≤ n → IsRead (n / 10) ds → IsRead n (ds ++ ((48 + n % 10) ∷ []))
read_more n ds le h small = number_more 0 ds (48 + n % 10) ∙ ap (λ (v : ℕ). with_digit v (48 + n % 10)) (h (omega arith)) ∙ last_digit n small

pub read_decimal : (n : ℕ) → IsSmall n → number_after 0 (decimal n) ≡ n
read_decimal n small = decimal_by_steps IsRead read_one read_more n small small

pub number_spaced : (n : ℕ) (ys : List ℕ) → IsSmall n → number (decimal n ++ 32 ∷ ys) ≡ n
number_spaced n ys small = ap (number_after 0) (word_spaced (decimal n) ys (clean n small)) ∙ read_decimal n small

pub number_last : (n : ℕ) → IsSmall n → number (decimal n) ≡ n
number_last n small = ap (number_after 0) (before_none is_space (decimal n) (clean n small)) ∙ read_decimal n small

pub after_number : (n : ℕ) (ys : List ℕ) → IsSmall n → after (decimal n ++ 32 ∷ ys) ≡ ys
after_number n ys small = after_spaced (decimal n) ys (clean n small)

-- ---- pids

-- a number and the space after it
abbrev pub ended : ℕ → List ℕ
ended n = decimal n ++ 32 ∷ []

abbrev pub pids_ended : List ℕ → List ℕ
pids_ended pids = flat_map ended pids

pub turned : (pids ys : List ℕ) → pids_text pids ++ 32 ∷ ys ≡ 32 ∷ (pids_ended pids ++ ys)
turned [] ys = refl
turned (p ∷ ps) ys =
    ap (λ (zs : List ℕ). 32 ∷ zs) (append_assoc (decimal p) (pids_text ps) (32 ∷ ys) ∙ ap (λ (zs : List ℕ). decimal p ++ zs) (turned ps ys)
    ∙ sym (append_assoc (decimal p) (32 ∷ []) (pids_ended ps ++ ys)) ∙ sym (append_assoc (ended p) (pids_ended ps) ys))

pub clean_pids : (pids : List ℕ) → AllSmall pids → Without is_t (pids_ended pids)
clean_pids [] h = tt
clean_pids (p ∷ ps) h = without-append is_t (ended p) (pids_ended ps) (without-append is_t (decimal p) (32 ∷ []) (clean_t p h.0) (refl, tt)) (clean_pids ps h.1)

numbers_first : (n : ℕ) (ds ys : List ℕ) → Without is_space ds → numbers_after n (ds ++ 32 ∷ ys) ≡ number_after n ds ∷ numbers_after 0 ys
numbers_first n [] ys h = refl
numbers_first n (d ∷ ds) ys h = rw h.0 (numbers_first (with_digit n d) ds ys h.1)

pub numbers_read : (pids ys : List ℕ) → AllSmall pids → numbers_after 0 ys ≡ [] → numbers_after 0 (pids_ended pids ++ ys) ≡ pids
numbers_read [] ys h none = none
numbers_read (p ∷ ps) ys h none =
    ap (numbers_after 0) (append_assoc (ended p) (pids_ended ps) ys ∙ append_assoc (decimal p) (32 ∷ []) (pids_ended ps ++ ys))
    ∙ numbers_first 0 (decimal p) (pids_ended ps ++ ys) (clean p h.0)
    ∙ ap (λ (n : ℕ). n ∷ numbers_after 0 (pids_ended ps ++ ys)) (read_decimal p h.0)
    ∙ ap (λ (ns : List ℕ). p ∷ ns) (numbers_read ps ys h.1 none)
