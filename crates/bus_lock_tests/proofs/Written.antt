-- All notes of one writer are by that writer.
use Rattle.std.proofs.Common.{◌≡◌, ℕ, List, [], ◌∷◌, map, cond, refl, ap, ◌∙◌, eq-eqb}
use Rattle.bus_lock_tests.specs.Written.{note, written_by}

pub written_all : (k : ℕ) (xs : List ℕ) → written_by k (map (note k) xs) ≡ map (note k) xs
written_all k [] = refl
written_all k (x ∷ xs) = ap (λ b. cond b (note k x ∷ written_by k (map (note k) xs)) (written_by k (map (note k) xs))) (eq-eqb k k refl) ∙ ap (λ l. note k x ∷ l) (written_all k xs)
