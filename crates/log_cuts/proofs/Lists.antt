-- Numbers in a row, and tests of each.
use Rattle.std.proofs.Common.{◌≡◌, ℕ, zero, suc, ◌+◌, ◌<◌, refl, sym, ◌∙◌, ap, arith, List, [], ◌∷◌, ◌++◌, drop, length, get_or, Bool, true, false, cond, ◌&&◌, eqb, slice_get, true≢false}
use Rattle.std.specs.List.{list_all, range_with_len}
use Rattle.std.specs.Option.{option_map_or}
use Rattle.std.proofs.lemmas.Bool.{and_from, and_parts}
use Rattle.std.proofs.lemmas.Bool.Decides.{nat_tests}
use Rattle.std.proofs.lemmas.List.{drop_more}
use Rattle.log_cuts.specs.Numbers.{stands_at, without}

pub range_more : (a n : ℕ) → range_with_len a (suc n) ≡ range_with_len a n ++ (a + n) ∷ []
range_more a zero = let e : a ≡ a + 0 = omega arith in ap (λ k. k ∷ []) e
range_more a (suc n) =
    let e : a + 1 + n ≡ a + suc n = omega arith in
    ap (λ rest. a ∷ rest) (range_more (a + 1) n ∙ ap (λ k. range_with_len (a + 1) n ++ k ∷ []) e)

-- ---- each of some numbers passes

more_pass : (test : ℕ → Bool) (a n : ℕ) → list_all test (range_with_len a n) ≡ true → test (a + n) ≡ true → list_all test (range_with_len a (suc n)) ≡ true
more_pass test a zero all more = let e : a + 0 ≡ a = omega arith in ap (λ b. b && true) (ap test (sym e) ∙ more)
more_pass test a (suc n) all more =
    let e : a + 1 + n ≡ a + suc n = omega arith in
    let parts = and_parts (test a) (list_all test (range_with_len (a + 1) n)) all in
    and_from (test a) (list_all test (range_with_len (a + 1) (suc n))) parts.0 (more_pass test (a + 1) n parts.1 (ap test e ∙ more))

some_fails : (test : ℕ → Bool) (a n i : ℕ) → i < n → test (a + i) ≡ false → list_all test (range_with_len a n) ≡ false
some_fails test a zero i within fails = absurd (omega (arith, within))
some_fails test a (suc n) zero within fails = let e : a + 0 ≡ a = omega arith in ap (λ b. b && list_all test (range_with_len (a + 1) n)) (ap test (sym e) ∙ fails)
some_fails test a (suc n) (suc i) within fails =
    let e : a + 1 + i ≡ a + suc i = omega arith in
    by_test (test a) (some_fails test (a + 1) n i (omega (arith, within)) (ap test e ∙ fails))
  where
    by_test : (b : Bool) → list_all test (range_with_len (a + 1) n) ≡ false → (b && list_all test (range_with_len (a + 1) n)) ≡ false
    by_test true rest = rest
    by_test false rest = refl

all_from : (test : ℕ → Bool) (a n : ℕ) → ((i : ℕ) → i < n → test (a + i) ≡ true) → list_all test (range_with_len a n) ≡ true
all_from test a zero each = refl
all_from test a (suc n) each =
    let e : a + 0 ≡ a = omega arith in
    and_from (test a) (list_all test (range_with_len (a + 1) n)) (ap test (sym e) ∙ each 0 (omega arith))
    (all_from test (a + 1) n (λ i within. let f : a + 1 + i ≡ a + suc i = omega arith in ap test f ∙ each (suc i) (omega (arith, within))))

pub one_more : (test : ℕ → Bool) (n : ℕ) → list_all test (range_with_len 0 n) ≡ true → test n ≡ true → list_all test (range_with_len 0 (n + 1)) ≡ true
one_more test n all more =
    let e : 0 + n ≡ n = omega arith in
    let f : suc n ≡ n + 1 = omega arith in
    ap (λ k. list_all test (range_with_len 0 k)) (sym f) ∙ more_pass test 0 n all (ap test e ∙ more)

pub one_fails : (test : ℕ → Bool) (n i : ℕ) → i < n → test i ≡ false → list_all test (range_with_len 0 n) ≡ false
one_fails test n i within fails = let e : 0 + i ≡ i = omega arith in some_fails test 0 n i within (ap test e ∙ fails)

pub each_passes : (test : ℕ → Bool) (n : ℕ) → list_all test (range_with_len 0 n) ≡ true → (i : ℕ) → i < n → test i ≡ true
each_passes test n all i within = by_test (test i) refl
  where
    by_test : (b : Bool) → test i ≡ b → b ≡ true
    by_test true is = refl
    by_test false is = absurd (true≢false (sym all ∙ one_fails test n i within is))

pub all_pass : (test : ℕ → Bool) (n : ℕ) → ((i : ℕ) → i < n → test i ≡ true) → list_all test (range_with_len 0 n) ≡ true
all_pass test n each = all_from test 0 n (λ i within. let e : 0 + i ≡ i = omega arith in ap test e ∙ each i within)

-- ---- numbers without others

-- the first one stands next among the others, and goes with it
pub without_next : (n : ℕ) (ns others : List ℕ) (place : ℕ) → stands_at others place n ≡ true → place < length others → without (n ∷ ns) (drop place others) ≡ without ns (drop (place + 1) others)
without_next n ns others place stands within = ap (without (n ∷ ns)) (drop_more others place 0 within) ∙ ap (λ b. cond b (without ns (drop (place + 1) others)) (n ∷ without ns (get_or others place 0 ∷ drop (place + 1) others))) same
  where
    same : eqb n (get_or others place 0) ≡ true
    same = found others place stands
      where
        found : (xs : List ℕ) (i : ℕ) → option_map_or (λ m. eqb m n) (slice_get xs i) false ≡ true → eqb n (get_or xs i 0) ≡ true
        found [] i is = absurd (true≢false (sym is))
        found (x ∷ xs) zero is = turned x is
          where
            turned : (m : ℕ) → eqb m n ≡ true → eqb n m ≡ true
            turned m is = grind (arith, nat_tests)
        found (x ∷ xs) (suc i) is = found xs i is

-- it does not, and stays
pub without_other : (n : ℕ) (ns others : List ℕ) (place : ℕ) → stands_at others place n ≡ false → without (n ∷ ns) (drop place others) ≡ n ∷ without ns (drop place others)
without_other n ns [] zero stands = none ns
  where
    none : (ns : List ℕ) → n ∷ ns ≡ n ∷ without ns []
    none [] = refl
    none (m ∷ ms) = refl
without_other n ns [] (suc place) stands = none ns
  where
    none : (ns : List ℕ) → n ∷ ns ≡ n ∷ without ns []
    none [] = refl
    none (m ∷ ms) = refl
without_other n ns (m ∷ others) zero stands = ap (λ b. cond b (without ns others) (n ∷ without ns (m ∷ others))) (turned m stands)
  where
    turned : (m : ℕ) → eqb m n ≡ false → eqb n m ≡ false
    turned m is = grind (arith, nat_tests)
without_other n ns (m ∷ others) (suc place) stands = without_other n ns others place stands
