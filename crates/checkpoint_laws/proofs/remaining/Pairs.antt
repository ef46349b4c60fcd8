-- Pairs of numbers that pass a test: fewer where fewer pass, and where the numbers end earlier; never more than there are.
use Rattle.std.proofs.Common.{◌≡◌, ℕ, zero, suc, ◌+◌, ◌*◌, ◌<◌, ◌≤◌, refl, sym, ◌∙◌, ap, subst, arith, Bool, true, false, eqb, eqb-true}
use Rattle.std.specs.Prelude.{count_by, sum_by}
use Rattle.std.specs.List.{list_any, range_with_len}
use Rattle.std.proofs.lemmas.List.Sums.{count_by-le-length, sum_by-cons}
use Rattle.std.proofs.lemmas.List.FromFn.{length-range_with_len}
use Rattle.log_laws.proofs.pages.Leaving.{one_if, sum_by-le-each, sum_by-less, in_range}
use Rattle.checkpoint_laws.specs.remaining.Left.{pairs_that}

pub one_if-le : (a b : Bool) → (a ≡ true → b ≡ true) → one_if a ≤ one_if b
one_if-le true b h = let one : one_if b ≡ 1 = ap one_if (h refl) in omega (arith, one)
one_if-le false b h = omega arith

-- no more of fewer numbers
longer : (f : ℕ → ℕ) (a n m : ℕ) → n ≤ m → sum_by f (range_with_len a n) ≤ sum_by f (range_with_len a m)
longer f a zero m within = omega arith
longer f a (suc n) zero within = absurd (omega (arith, within))
longer f a (suc n) (suc m) within =
    let rest = longer f (a + 1) n m (omega (arith, within)) in
    omega (arith, sum_by-cons f a (range_with_len (a + 1) n), sum_by-cons f a (range_with_len (a + 1) m), rest)

-- a number of a row is in it
in_row : (n i : ℕ) → i < n → list_any (λ j. eqb j i) (range_with_len 0 n) ≡ true
in_row n i within = ap (λ m. list_any (λ j. eqb j m) (range_with_len 0 n)) (zero_more i) ∙ in_range 0 n i within
  where
    zero_more : (n : ℕ) → n ≡ 0 + n
    zero_more n = omega arith

module _ (t u : ℕ → ℕ → Bool) (weaker : (i n : ℕ) → t i n ≡ true → u i n ≡ true) where
  row-le : (i m k : ℕ) → m ≤ k → count_by (t i) (range_with_len 0 (m + 1)) ≤ count_by (u i) (range_with_len 0 (k + 1))
  row-le i m k within =
      let fewer : count_by (t i) (range_with_len 0 (m + 1)) ≤ count_by (u i) (range_with_len 0 (m + 1)) =
      sum_by-le-each (λ n. one_if (t i n)) (λ n. one_if (u i n)) (λ n. one_if-le (t i n) (u i n) (weaker i n)) (range_with_len 0 (m + 1)) in
      let more : count_by (u i) (range_with_len 0 (m + 1)) ≤ count_by (u i) (range_with_len 0 (k + 1)) = longer (λ n. one_if (u i n)) 0 (m + 1) (k + 1) (omega (arith, within)) in
      omega (arith, fewer, more)

  pub pairs-le : (pages m k : ℕ) → m ≤ k → pairs_that t pages m ≤ pairs_that u pages k
  pairs-le pages m k within =
      sum_by-le-each (λ i. count_by (t i) (range_with_len 0 (m + 1))) (λ i. count_by (u i) (range_with_len 0 (k + 1))) (λ i. row-le i m k within) (range_with_len 0 pages)

  -- one pair less
  pub pairs-less : (pages most i n : ℕ) → i < pages → n ≤ most → u i n ≡ true → t i n ≡ false → pairs_that t pages most + 1 ≤ pairs_that u pages most
  pairs-less pages most i n page count was is_not =
      sum_by-less (λ j. count_by (t j) (range_with_len 0 (most + 1))) (λ j. count_by (u j) (range_with_len 0 (most + 1))) (λ j. eqb j i) (λ j. row-le j most most (omega arith)) at_page
      (range_with_len 0 pages) (in_row pages i page)
    where
      at_count : (m : ℕ) → eqb m n ≡ true → one_if (t i m) + 1 ≤ one_if (u i m)
      at_count m same =
          let here : n ≡ m = sym (eqb-true m n same) in
          let none : one_if (t i n) ≡ 0 = ap one_if is_not in
          let one : one_if (u i n) ≡ 1 = ap one_if was in
          subst (λ m. one_if (t i m) + 1 ≤ one_if (u i m)) here (omega (arith, none, one))

      row-less : count_by (t i) (range_with_len 0 (most + 1)) + 1 ≤ count_by (u i) (range_with_len 0 (most + 1))
      row-less =
          sum_by-less (λ m. one_if (t i m)) (λ m. one_if (u i m)) (λ m. eqb m n) (λ m. one_if-le (t i m) (u i m) (weaker i m)) at_count (range_with_len 0 (most + 1))
          (in_row (most + 1) n (omega (arith, count)))

      at_page : (j : ℕ) → eqb j i ≡ true → count_by (t j) (range_with_len 0 (most + 1)) + 1 ≤ count_by (u j) (range_with_len 0 (most + 1))
      at_page j same = subst (λ j. count_by (t j) (range_with_len 0 (most + 1)) + 1 ≤ count_by (u j) (range_with_len 0 (most + 1))) (sym (eqb-true j i same)) row-less

-- no more than there are
rows_within : (t : ℕ → ℕ → Bool) (most a n : ℕ) → sum_by (λ i. count_by (t i) (range_with_len 0 (most + 1))) (range_with_len a n) ≤ n * (most + 1)
rows_within t most a zero = omega arith
rows_within t most a (suc n) =
    let rest = rows_within t most (a + 1) n in
    omega (arith, sum_by-cons (λ i. count_by (t i) (range_with_len 0 (most + 1))) a (range_with_len (a + 1) n), count_by-le-length (t a) (range_with_len 0 (most + 1)), length-range_with_len 0 (most + 1), rest)

pub pairs-within : (t : ℕ → ℕ → Bool) (pages most : ℕ) → pairs_that t pages most ≤ pages * (most + 1)
pairs-within t pages most = rows_within t most 0 pages
