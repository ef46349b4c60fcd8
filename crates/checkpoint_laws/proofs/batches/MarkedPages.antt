-- The numbers of a range that pass a test: they rise, and what holds of each number that passes holds of all of them.
use Rattle.std.proofs.Common.{◌≡◌, ℕ, zero, suc, ◌+◌, ◌<◌, ◌≤◌, refl, arith, List, ◌∷◌, Bool, true, false, cond, ltb}
use Rattle.std.specs.Prelude.{filter}
use Rattle.std.specs.List.{list_all, range_with_len}
use Rattle.std.proofs.lemmas.Bool.{lt-ltb, and_from}
use Rattle.checkpoint_laws.specs.batches.Underway.{are_rising}

-- each that passes is above one below the range
passing_above : (test : ℕ → Bool) (x a k : ℕ) → x < a → list_all (ltb x) (filter test (range_with_len a k)) ≡ true
passing_above test x a zero below = refl
passing_above test x a (suc k) below = by_test (test a) (passing_above test x (a + 1) k (omega (arith, below)))
  where
    by_test : (b : Bool) → list_all (ltb x) (filter test (range_with_len (a + 1) k)) ≡ true → list_all (ltb x) (cond b (a ∷ filter test (range_with_len (a + 1) k)) (filter test (range_with_len (a + 1) k))) ≡ true
    by_test true more = and_from (ltb x a) (list_all (ltb x) (filter test (range_with_len (a + 1) k))) (lt-ltb x a below) more
    by_test false more = more

pub passing_rising : (test : ℕ → Bool) (a k : ℕ) → are_rising (filter test (range_with_len a k)) ≡ true
passing_rising test a zero = refl
passing_rising test a (suc k) = by_test (test a) (passing_rising test (a + 1) k)
  where
    rest : List ℕ
    rest = filter test (range_with_len (a + 1) k)

    by_test : (b : Bool) → are_rising rest ≡ true → are_rising (cond b (a ∷ rest) rest) ≡ true
    by_test true more = and_from (list_all (ltb a) rest) (are_rising rest) (passing_above test a (a + 1) k (omega arith)) more
    by_test false more = more

pub passing_all : (test holds : ℕ → Bool) (n a k : ℕ) → a + k ≤ n → ((i : ℕ) → i < n → test i ≡ true → holds i ≡ true) → list_all holds (filter test (range_with_len a k)) ≡ true
passing_all test holds n a zero fits each = refl
passing_all test holds n a (suc k) fits each = by_test (test a) refl (passing_all test holds n (a + 1) k (omega (arith, fits)) each)
  where
    rest : List ℕ
    rest = filter test (range_with_len (a + 1) k)

    by_test : (b : Bool) → test a ≡ b → list_all holds rest ≡ true → list_all holds (cond b (a ∷ rest) rest) ≡ true
    by_test true is more = and_from (holds a) (list_all holds rest) (each a (omega (arith, fits)) is) more
    by_test false is more = more
