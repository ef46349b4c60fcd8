-- Names of registers that are a letter and a number.
use Rattle.std.proofs.Common.{◌≡◌, ℕ, ◌+◌, ◌-◌, ◌*◌, ◌/◌, ◌%◌, ◌<◌, ◌≤◌, List, [], ◌∷◌, Option, Some, None, length, get_or, map, refl, sym, ap, ◌∙◌, arith}
use Rattle.std.specs.List.{range_with_len}
use Rattle.std.proofs.lemmas.List.FromFn.{get_or-map-range_with_len}
use Rattle.rv_asm.specs.Registers.{register_of, numeral}

-- functions that are the same at each number of a range
same_within : {X : Type 0} (f g : ℕ → X) (low count n : ℕ) (none : X) → map f (range_with_len low count) ≡ map g (range_with_len low count) → low ≤ n → n < low + count → f n ≡ g n
same_within {X} f g low count n none same above below =
    sym (get_or-map-range_with_len f low count (n - low) n none (omega (arith, above, below)) (omega (arith, above)))
    ∙ ap (λ (xs : List X). get_or xs (n - low) none) same
    ∙ get_or-map-range_with_len g low count (n - low) n none (omega (arith, above, below)) (omega (arith, above))

-- the register of a letter and a number
abbrev numbered : ℕ → ℕ → Option ℕ
numbered letter n = register_of (letter ∷ numeral n)

of_a : (n : ℕ) → n < 8 → numbered 97 n ≡ Some (n + 10)
of_a n lt = same_within (numbered 97) (λ k. Some (k + 10)) 0 8 n None refl (omega arith) lt

of_low_t : (n : ℕ) → n < 3 → numbered 116 n ≡ Some (n + 5)
of_low_t n lt = same_within (numbered 116) (λ k. Some (k + 5)) 0 3 n None refl (omega arith) lt

of_high_t : (n : ℕ) → 3 ≤ n → n < 7 → numbered 116 n ≡ Some (n + 25)
of_high_t n le lt = same_within (numbered 116) (λ k. Some (k + 25)) 3 4 n None refl le (omega (arith, lt))

of_low_s : (n : ℕ) → n < 2 → numbered 115 n ≡ Some (n + 8)
of_low_s n lt = same_within (numbered 115) (λ k. Some (k + 8)) 0 2 n None refl (omega arith) lt

of_high_s : (n : ℕ) → 2 ≤ n → n < 12 → numbered 115 n ≡ Some (n + 16)
of_high_s n le lt = same_within (numbered 115) (λ k. Some (k + 16)) 2 10 n None refl le (omega (arith, lt))

of_x : (n : ℕ) → n < 32 → numbered 120 n ≡ Some n
of_x n lt = same_within (numbered 120) Some 0 32 n None refl (omega arith) lt

-- ---- the digits of a number

one_digit : (n : ℕ) → n < 10 → numeral n ≡ (48 + n) ∷ []
one_digit n lt = same_within numeral (λ k. (48 + k) ∷ []) 0 10 n [] refl (omega arith) lt

two_digits : (n : ℕ) → 10 ≤ n → n < 100 → numeral n ≡ (48 + n / 10) ∷ (48 + n % 10) ∷ []
two_digits n le lt = same_within numeral (λ k. (48 + k / 10) ∷ (48 + k % 10) ∷ []) 10 90 n [] refl le (omega (arith, lt))

one_read : (one : ℕ) → 48 ≤ one → one ≤ 57 → one ∷ [] ≡ numeral (one - 48)
one_read one low high =
    let same : 48 + (one - 48) ≡ one = omega (arith, low) in
    sym (one_digit (one - 48) (omega (arith, low, high)) ∙ ap (λ (d : ℕ). d ∷ []) same)

two_read : (ten one : ℕ) → 48 < ten → ten ≤ 57 → 48 ≤ one → one ≤ 57 → ten ∷ one ∷ [] ≡ numeral ((ten - 48) * 10 + (one - 48))
two_read ten one some low_ten low_one high =
    let upper : 48 + ((ten - 48) * 10 + (one - 48)) / 10 ≡ ten = omega (arith, some, low_one, high) in
    let lower : 48 + ((ten - 48) * 10 + (one - 48)) % 10 ≡ one = omega (arith, some, low_one, high) in
    sym (two_digits ((ten - 48) * 10 + (one - 48)) (omega (arith, some)) (omega (arith, low_ten, high)) ∙ rw (upper, lower) refl)

pub one_of : (digits : List ℕ) → 1 ≤ length digits → length digits < 2 → 48 ≤ get_or digits 0 0 → get_or digits 0 0 ≤ 57 → digits ≡ numeral (get_or digits 0 0 - 48)
one_of [] some few low high = absurd (omega (arith, some))
one_of (one ∷ []) some few low high = one_read one low high
one_of (one ∷ other ∷ more) some few low high = absurd (omega (arith, few))

pub two_of : (digits : List ℕ) → 2 ≤ length digits → length digits < 3 → 48 < get_or digits 0 0 → get_or digits 0 0 ≤ 57 → 48 ≤ get_or digits 1 0 → get_or digits 1 0 ≤ 57 → digits ≡ numeral ((get_or digits 0 0 - 48) * 10 + (get_or digits 1 0 - 48))
two_of [] some few a b c d = absurd (omega (arith, some))
two_of (ten ∷ []) some few a b c d = absurd (omega (arith, some))
two_of (ten ∷ one ∷ []) some few a b c d = two_read ten one a b c d
two_of (ten ∷ one ∷ other ∷ more) some few a b c d = absurd (omega (arith, few))

-- ---- the same of a letter that is known by a test

at_letter : (letter own n : ℕ) (r : Option ℕ) → letter ≡ own → register_of (own ∷ numeral n) ≡ r → register_of (letter ∷ numeral n) ≡ r
at_letter letter own n r is found = ap (λ (l : ℕ). register_of (l ∷ numeral n)) is ∙ found

pub if_a : (letter n : ℕ) → letter ≡ 97 → n < 8 → register_of (letter ∷ numeral n) ≡ Some (n + 10)
if_a letter n is lt = at_letter letter 97 n (Some (n + 10)) is (of_a n lt)

pub if_low_t : (letter n : ℕ) → letter ≡ 116 → n < 3 → register_of (letter ∷ numeral n) ≡ Some (n + 5)
if_low_t letter n is lt = at_letter letter 116 n (Some (n + 5)) is (of_low_t n lt)

pub if_high_t : (letter n : ℕ) → letter ≡ 116 → 3 ≤ n → n < 7 → register_of (letter ∷ numeral n) ≡ Some (n + 25)
if_high_t letter n is le lt = at_letter letter 116 n (Some (n + 25)) is (of_high_t n le lt)

pub if_low_s : (letter n : ℕ) → letter ≡ 115 → n < 2 → register_of (letter ∷ numeral n) ≡ Some (n + 8)
if_low_s letter n is lt = at_letter letter 115 n (Some (n + 8)) is (of_low_s n lt)

pub if_high_s : (letter n : ℕ) → letter ≡ 115 → 2 ≤ n → n < 12 → register_of (letter ∷ numeral n) ≡ Some (n + 16)
if_high_s letter n is le lt = at_letter letter 115 n (Some (n + 16)) is (of_high_s n le lt)

pub if_x : (letter n : ℕ) → letter ≡ 120 → n < 32 → register_of (letter ∷ numeral n) ≡ Some n
if_x letter n is lt = at_letter letter 120 n (Some n) is (of_x n lt)
