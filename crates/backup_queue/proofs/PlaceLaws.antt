-- Where an element stands that passes a test, looked for in two parts of a list.
use Rattle.std.proofs.Common.{◌≡◌, ℕ, ◌-◌, take-append-drop, Bool, true, false, ◌||◌, cond, ltb, List, [], ◌∷◌, take, drop, length, refl, sym, ◌∙◌, ap, arith, Option, Some, None}
use Rattle.std.specs.Prelude.{position, MatchOption}
use Rattle.std.specs.List.{list_any, position_or_len}
use Rattle.std.proofs.lemmas.List.{take_all, length-drop}
use Rattle.std.proofs.lemmas.List.Folds.{list_any-append}
use Rattle.std.proofs.lemmas.Bool.Decides.{nat_tests}

-- some element passes where the first that passes is not behind the end
any_by_place : {X : Type 0} (test : X → Bool) (xs : List X) → list_any test xs ≡ ltb (position_or_len test xs) (length xs)
any_by_place test [] = refl
any_by_place test (x ∷ xs) = let more = any_by_place test xs in grind (arith, nat_tests)

any_from_position : {X : Type 0} (test : X → Bool) (xs : List X) (result : Option ℕ) → result ≡ position test xs → MatchOption result (list_any test xs ≡ false) (λ i. list_any test xs ≡ true)
any_from_position test xs result is = at (ltb (position_or_len test xs) (length xs)) (any_by_place test xs) result is
  where
    at : (b : Bool) → list_any test xs ≡ b → (r : Option ℕ) → r ≡ cond b (Some (position_or_len test xs)) None → MatchOption r (list_any test xs ≡ false) (λ i. list_any test xs ≡ true)
    at true any None none = cc
    at true any (Some i) some = any
    at false any None none = any
    at false any (Some i) some = cc

-- what a slice from a place on has
behind_all : {X : Type 0} (from : ℕ) (xs : List X) → take (length xs - from) (drop from xs) ≡ drop from xs
behind_all from xs = take_all (length xs - from) (drop from xs) (omega (arith, length-drop from xs))

-- in the two parts of a list
any_in_parts : {X : Type 0} (test : X → Bool) (from : ℕ) (xs : List X) → list_any test xs ≡ (list_any test (take from xs) || list_any test (drop from xs))
any_in_parts test from xs = ap (list_any test) (sym (take-append-drop from xs)) ∙ list_any-append test (take from xs) (drop from xs)

-- one that stands behind passes
pub any_behind : {X : Type 0} (test : X → Bool) (from : ℕ) (xs : List X) (result : Option ℕ) (i : ℕ) → result ≡ position test (take (length xs - from) (drop from xs)) → result ≡ Some i → list_any test xs ≡ true
any_behind test from xs result i is some =
    let part = any_from_position test (drop from xs) (Some i) (sym some ∙ is ∙ ap (position test) (behind_all from xs)) in
    any_in_parts test from xs ∙ ap (λ b. list_any test (take from xs) || b) part ∙ or_true (list_any test (take from xs))
  where
    or_true : (b : Bool) → (b || true) ≡ true
    or_true true = refl
    or_true false = refl

-- where none stands behind, those before decide
pub any_before : {X : Type 0} (test : X → Bool) (from : ℕ) (xs : List X) (behind before : Option ℕ) → behind ≡ position test (take (length xs - from) (drop from xs)) → behind ≡ None → before ≡ position test (take from xs)
    → MatchOption before (list_any test xs ≡ false) (λ i. list_any test xs ≡ true)
any_before test from xs behind before behind_is none before_is =
    let no_more = any_from_position test (drop from xs) None (sym none ∙ behind_is ∙ ap (position test) (behind_all from xs)) in
    at before (any_from_position test (take from xs) before before_is)
    (any_in_parts test from xs ∙ ap (λ b. list_any test (take from xs) || b) no_more ∙ or_false (list_any test (take from xs)))
  where
    or_false : (b : Bool) → (b || false) ≡ b
    or_false true = refl
    or_false false = refl

    at : (r : Option ℕ) → MatchOption r (list_any test (take from xs) ≡ false) (λ i. list_any test (take from xs) ≡ true) → list_any test xs ≡ list_any test (take from xs)
        → MatchOption r (list_any test xs ≡ false) (λ i. list_any test xs ≡ true)
    at None part same = same ∙ part
    at (Some i) part same = same ∙ part
