-- How many elements of a list pass a test.
use Rattle.std.proofs.Common.{◌≡◌, ℕ, ◌+◌, ◌≤◌, refl, sym, ◌∙◌, ap, arith, List, [], ◌∷◌, ◌++◌, Bool, true, false, cond, ◌||◌, Some, true≢false}
use Rattle.std.specs.Prelude.{count_by, find}
use Rattle.std.specs.List.{list_any}
use Rattle.std.proofs.lemmas.List.Sums.{sum_by-append, sum_by-cons}

pub zero_added : (m : ℕ) → 0 + m ≡ m
zero_added m = omega arith

module _ {X : Type 0} (t : X → Bool) where
  pub count-snoc : (xs : List X) (x : X) → count_by t (xs ++ x ∷ []) ≡ count_by t xs + cond (t x) 1 0
  count-snoc xs x = sum_by-append (λ x. cond (t x) 1 0) xs (x ∷ []) ∙ ap (λ m. count_by t xs + m) (zero_added (cond (t x) 1 0))

  pub count-cons : (x : X) (xs : List X) → count_by t (x ∷ xs) ≡ cond (t x) 1 0 + count_by t xs
  count-cons x xs = sum_by-cons (λ x. cond (t x) 1 0) x xs

  pub counted_as : (x : X) (b : Bool) → t x ≡ b → ◌≡◌ {A = ℕ} (cond (t x) 1 0) (cond b 1 0)
  counted_as x b is = ap (λ (b : Bool). cond b 1 0) is

  -- where none passes there are none
  pub count_none : (xs : List X) → list_any t xs ≡ false → count_by t xs ≡ 0
  count_none [] none = refl
  count_none (x ∷ xs) none = by_test (t x) refl none (count_none xs)
    where
      by_test : (b : Bool) → t x ≡ b → (b || list_any t xs) ≡ false → (list_any t xs ≡ false → count_by t xs ≡ 0) → count_by t (x ∷ xs) ≡ 0
      by_test true is h more = absurd (true≢false h)
      by_test false is h more = let a = more h in let c = count-cons x xs in let z = counted_as x false is in omega (arith, a, c, z)

  -- where one passes there is one
  pub count_some : (xs : List X) → list_any t xs ≡ true → 1 ≤ count_by t xs
  count_some [] some = absurd (true≢false (sym some))
  count_some (x ∷ xs) some = by_test (t x) refl some (count_some xs)
    where
      by_test : (b : Bool) → t x ≡ b → (b || list_any t xs) ≡ true → (list_any t xs ≡ true → 1 ≤ count_by t xs) → 1 ≤ count_by t (x ∷ xs)
      by_test true is h more = let c = count-cons x xs in let z = counted_as x true is in omega (arith, c, z)
      by_test false is h more = let a = more h in let c = count-cons x xs in omega (arith, a, c)

  pub any_counted : (xs : List X) → 1 ≤ count_by t xs → list_any t xs ≡ true
  any_counted xs some = by_test (list_any t xs) refl
    where
      by_test : (b : Bool) → list_any t xs ≡ b → list_any t xs ≡ true
      by_test true is = is
      by_test false is = absurd (let none = count_none xs is in omega (arith, some, none))

  -- the first that passes
  pub record Found (xs : List X) : Type 0 where
    pub found : X
    pub first : find t xs ≡ Some found
    pub passes : t found ≡ true

  pub found_some : (xs : List X) → 1 ≤ count_by t xs → Found xs
  found_some [] some = absurd (omega (arith, some))
  found_some (x ∷ xs) some = by_test (t x) refl (found_some xs)
    where
      by_test : (b : Bool) → t x ≡ b → (1 ≤ count_by t xs → Found xs) → Found (x ∷ xs)
      by_test true is more = record { found = x; first = ap (λ c. cond c (Some x) (find t xs)) is; passes = is }
      by_test false is more =
          let later = more (let c = count-cons x xs in let z = counted_as x false is in omega (arith, some, c, z)) in
          record { found = later.found; first = ap (λ c. cond c (Some x) (find t xs)) is ∙ later.first; passes = later.passes }
