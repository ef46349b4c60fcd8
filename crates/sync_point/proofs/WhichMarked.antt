-- Which pages are marked: their numbers rise, each is within, and a number is there where its mark is set.
use Rattle.std.proofs.Common.{◌≡◌, ℕ, zero, suc, ◌+◌, ◌<◌, ◌≤◌, Bool, true, false, ◌&&◌, ◌||◌, cond, eqb, ltb, List, [], ◌∷◌, filter, length, replicate, slice_get, refl, sym, ap, ◌∙◌, arith}
use Rattle.std.proofs.lemmas.Bool.{eqb-true, eqb-false, ne_eqb, lt-ltb, false_from_ne_true}
use Rattle.std.proofs.lemmas.List.FromFn.{get_or-range_with_len, length-range_with_len}
use Rattle.std.proofs.lemmas.List.Kept.{IsStrictlySortedBy-filter}
use Rattle.std.proofs.lemmas.Map.Keys.{sorted_from_strictly_increasing}
use Rattle.std.specs.List.{range_with_len, list_all, list_any}
use Rattle.std.specs.List.Sorted.{IsStrictlySortedBy, IsStrictlyIncreasing}
use Rattle.std.specs.Option.{option_map_or}
use Rattle.std.specs.Ordering.{nat_cmp}
use Rattle.proc_state.specs.declared.process.Process.{Process}
use Rattle.sync_point.specs.Batch.{is_marked, marked_pages, synced}

-- ---- those of a range that pass a test

range_rises : (n : ℕ) → IsStrictlyIncreasing (range_with_len 0 n)
range_rises n k within =
    let long = length-range_with_len 0 n in
    let here = get_or-range_with_len 0 n k 0 (omega (arith, long)) in
    let next = get_or-range_with_len 0 n (k + 1) 0 (omega (arith, long)) in
    omega (arith, here, next)

-- their numbers rise
passing_rise : (test : ℕ → Bool) (n : ℕ) → IsStrictlySortedBy nat_cmp (filter test (range_with_len 0 n))
passing_rise test n = IsStrictlySortedBy-filter nat_cmp test (range_with_len 0 n) (sorted_from_strictly_increasing (range_with_len 0 n) (range_rises n))

-- each is below a bound of the range
passing_below : (test : ℕ → Bool) (n a k : ℕ) → a + k ≤ n → list_all (λ i. ltb i n) (filter test (range_with_len a k)) ≡ true
passing_below test n a zero fits = refl
passing_below test n a (suc k) fits = by_test (passing_below test n (a + 1) k (omega arith)) (test a)
  where
    by_test : list_all (λ i. ltb i n) (filter test (range_with_len (a + 1) k)) ≡ true → (b : Bool) → list_all (λ i. ltb i n) (cond b (a ∷ filter test (range_with_len (a + 1) k)) (filter test (range_with_len (a + 1) k))) ≡ true
    by_test rest true = ap (λ b. b && list_all (λ i. ltb i n) (filter test (range_with_len (a + 1) k))) (lt-ltb a n (omega arith)) ∙ rest
    by_test rest false = rest

-- a number of the range is there
pub in_range : (a n q : ℕ) → a ≤ q → q < a + n → list_any (λ i. eqb q i) (range_with_len a n) ≡ true
in_range a zero q low high = absurd (omega arith)
in_range a (suc n) q low high = by_test (in_range (a + 1) n q) (eqb q a) refl
  where
    by_test : (a + 1 ≤ q → q < a + 1 + n → list_any (λ i. eqb q i) (range_with_len (a + 1) n) ≡ true) → (b : Bool) → eqb q a ≡ b → (b || list_any (λ i. eqb q i) (range_with_len (a + 1) n)) ≡ true
    by_test rest true is = refl
    by_test rest false is = rest (let apart = eqb-false q a is in omega (arith, apart)) (omega arith)

-- a number behind it is not
pub not_in_range : (a n q : ℕ) → a + n ≤ q → list_any (λ i. eqb q i) (range_with_len a n) ≡ false
not_in_range a zero q behind = refl
not_in_range a (suc n) q behind =
    ap (λ b. b || list_any (λ i. eqb q i) (range_with_len (a + 1) n)) (ne_eqb q a (λ at. omega (arith, at)))
    ∙ not_in_range (a + 1) n q (omega arith)

-- a number is among those that pass where it passes and is among all
passing_has : (test : ℕ → Bool) (q : ℕ) (xs : List ℕ) → list_any (λ i. eqb q i) (filter test xs) ≡ (test q && list_any (λ i. eqb q i) xs)
passing_has test q [] = elim (test q) as (λ b. false ≡ (b && false)) [ true ↦ refl | false ↦ refl ]
passing_has test q (x ∷ xs) = by_tests (passing_has test q xs) (test x) refl (eqb q x) refl
  where
    same : (b : Bool) → eqb q x ≡ true → test x ≡ b → test q ≡ b
    same b at is = ap test (eqb-true q x at) ∙ is

    by_tests : list_any (λ i. eqb q i) (filter test xs) ≡ (test q && list_any (λ i. eqb q i) xs)
        → (a : Bool) → test x ≡ a → (b : Bool) → eqb q x ≡ b → list_any (λ i. eqb q i) (cond a (x ∷ filter test xs) (filter test xs)) ≡ (test q && (b || list_any (λ i. eqb q i) xs))
    by_tests rest true is true at = ap (λ b. b || list_any (λ i. eqb q i) (filter test xs)) at ∙ sym (ap (λ b. b && true) (same true at is))
    by_tests rest true is false at = ap (λ b. b || list_any (λ i. eqb q i) (filter test xs)) at ∙ rest
    by_tests rest false is true at = rest ∙ ap (λ b. b && list_any (λ i. eqb q i) xs) (same false at is) ∙ sym (ap (λ b. b && true) (same false at is))
    by_tests rest false is false at = rest

none_pass : (test : ℕ → Bool) → ((i : ℕ) → test i ≡ false) → (xs : List ℕ) → filter test xs ≡ []
none_pass test none [] = refl
none_pass test none (x ∷ xs) = ap (λ b. cond b (x ∷ filter test xs) (filter test xs)) (none x) ∙ none_pass test none xs

-- ---- the marks of a process

mark_within : (marks : List Bool) (i : ℕ) → option_map_or (λ b. b) (slice_get marks i) false ≡ true → i < length marks
mark_within [] i is = cc
mark_within (m ∷ ms) zero is = omega arith
mark_within (m ∷ ms) (suc i) is = let rest = mark_within ms i is in omega (arith, rest)

mark_cleared : (n i : ℕ) → option_map_or (λ b. b) (slice_get (replicate n false) i) false ≡ false
mark_cleared zero i = refl
mark_cleared (suc n) zero = refl
mark_cleared (suc n) (suc i) = mark_cleared n i

pub marked_rise : (p : Process) → IsStrictlySortedBy nat_cmp (marked_pages p)
marked_rise p = passing_rise (is_marked p) (length (p.ram).dirty)

pub marked_within : (p : Process) → list_all (λ i. ltb i (length (p.ram).dirty)) (marked_pages p) ≡ true
marked_within p = passing_below (is_marked p) (length (p.ram).dirty) 0 (length (p.ram).dirty) (omega arith)

-- a page is among the marked ones where it is marked
pub marked_has : (p : Process) (q : ℕ) → list_any (λ i. eqb q i) (marked_pages p) ≡ is_marked p q
marked_has p q = passing_has (is_marked p) q (range_with_len 0 (length (p.ram).dirty)) ∙ by_mark (is_marked p q) refl
  where
    by_mark : (b : Bool) → is_marked p q ≡ b → (b && list_any (λ i. eqb q i) (range_with_len 0 (length (p.ram).dirty))) ≡ b
    by_mark true is = in_range 0 (length (p.ram).dirty) q (omega arith) (let within = mark_within (p.ram).dirty q is in omega (arith, within))
    by_mark false is = refl

-- no page behind the memory is marked
pub unmarked_behind : (p : Process) (i : ℕ) → length (p.ram).dirty ≤ i → is_marked p i ≡ false
unmarked_behind p i behind = false_from_ne_true (is_marked p i) (λ is. let within = mark_within (p.ram).dirty i is in omega (arith, within))

pub none_marked : (p : Process) → marked_pages (synced p) ≡ []
none_marked p = none_pass (is_marked (synced p)) (mark_cleared (length (p.ram).dirty)) (range_with_len 0 (length (replicate (length (p.ram).dirty) false)))
