-- A list of which one element was written.
use Rattle.std.proofs.Common.{◌≡◌, ◌≢◌, ℕ, zero, suc, ◌<◌, List, [], ◌∷◌, length, set, slice_get, Some, refl, ap, arith}

pub written_there : {X : Type 0} (xs : List X) (i : ℕ) (x : X) → i < length xs → slice_get (set xs i x) i ≡ Some x
written_there [] i x within = absurd (omega arith)
written_there (y ∷ ys) zero x within = refl
written_there (y ∷ ys) (suc i) x within = written_there ys i x (omega arith)

pub others_same : {X : Type 0} (xs : List X) (i j : ℕ) (x : X) → j ≢ i → slice_get (set xs i x) j ≡ slice_get xs j
others_same [] i j x differ = refl
others_same (y ∷ ys) zero zero x differ = absurd (differ refl)
others_same (y ∷ ys) zero (suc j) x differ = refl
others_same (y ∷ ys) (suc i) zero x differ = refl
others_same (y ∷ ys) (suc i) (suc j) x differ = others_same ys i j x (λ e. differ (ap suc e))
