-- A place that a process has stands in the list of places.
use Rattle.std.proofs.Common.{◌≡◌, ℕ, zero, suc, ◌<◌, List, [], ◌∷◌, ◌++◌, length, get_or, Option, None, Some, refl, ap, ◌∙◌, arith}

some_is_not_none : (n : ℕ) → None ≡ Some n → ⊥
some_is_not_none n e = cc

pub in_owners : (owners : List (Option ℕ)) (place pid : ℕ) → get_or owners place None ≡ Some pid → place < length owners
in_owners [] place pid e = absurd (some_is_not_none pid e)
in_owners (o ∷ rest) zero pid e = omega arith
in_owners (o ∷ rest) (suc place) pid e = let more : place < length rest = in_owners rest place pid e in omega arith

-- a place that no process has, behind the others
pub one_more_place : (owners new : List (Option ℕ)) → new ≡ owners ++ None ∷ [] → (k : ℕ) → get_or new k None ≡ get_or owners k None
one_more_place owners new e k = ap (λ os. get_or os k None) e ∙ at owners k
  where
    at : (owners : List (Option ℕ)) (k : ℕ) → get_or (owners ++ None ∷ []) k None ≡ get_or owners k None
    at [] zero = refl
    at [] (suc k) = refl
    at (o ∷ rest) zero = refl
    at (o ∷ rest) (suc k) = at rest k
