-- Eight fields of words, one behind the other.
use Rattle.std.proofs.Common.{◌≡◌, ℕ, ◌≤◌, ◌<◌, List, [], ◌∷◌, length, get_or, refl, arith}
use Rattle.std.specs.List.{flat_map}
use Rattle.text_parts.specs.Words.{spaced}

-- the fields of eight words are those of the words one after the other
pub eight_fields : (ws : List ℕ) (a b c d e f g h : List ℕ) → 8 ≤ length ws → length ws < 9 → a ≡ spaced (get_or ws 0 0) → b ≡ spaced (get_or ws 1 0) → c ≡ spaced (get_or ws 2 0) → d ≡ spaced (get_or ws 3 0) → e ≡ spaced (get_or ws 4 0) → f ≡ spaced (get_or ws 5 0) → g ≡ spaced (get_or ws 6 0) → h ≡ spaced (get_or ws 7 0) → flat_map (λ x. x) (a ∷ b ∷ c ∷ d ∷ e ∷ f ∷ g ∷ h ∷ []) ≡ flat_map spaced ws
eight_fields [] a b c d e f g h low high ea eb ec ed ee ef eg eh = absurd (omega (arith, low, high))
eight_fields (w0 ∷ []) a b c d e f g h low high ea eb ec ed ee ef eg eh = absurd (omega (arith, low, high))
eight_fields (w0 ∷ w1 ∷ []) a b c d e f g h low high ea eb ec ed ee ef eg eh = absurd (omega (arith, low, high))
eight_fields (w0 ∷ w1 ∷ w2 ∷ []) a b c d e f g h low high ea eb ec ed ee ef eg eh = absurd (omega (arith, low, high))
eight_fields (w0 ∷ w1 ∷ w2 ∷ w3 ∷ []) a b c d e f g h low high ea eb ec ed ee ef eg eh = absurd (omega (arith, low, high))
eight_fields (w0 ∷ w1 ∷ w2 ∷ w3 ∷ w4 ∷ []) a b c d e f g h low high ea eb ec ed ee ef eg eh = absurd (omega (arith, low, high))
eight_fields (w0 ∷ w1 ∷ w2 ∷ w3 ∷ w4 ∷ w5 ∷ []) a b c d e f g h low high ea eb ec ed ee ef eg eh = absurd (omega (arith, low, high))
eight_fields (w0 ∷ w1 ∷ w2 ∷ w3 ∷ w4 ∷ w5 ∷ w6 ∷ []) a b c d e f g h low high ea eb ec ed ee ef eg eh = absurd (omega (arith, low, high))
eight_fields (w0 ∷ w1 ∷ w2 ∷ w3 ∷ w4 ∷ w5 ∷ w6 ∷ w7 ∷ []) a b c d e f g h low high ea eb ec ed ee ef eg eh = rw (ea, eb, ec, ed, ee, ef, eg, eh) refl
eight_fields (w0 ∷ w1 ∷ w2 ∷ w3 ∷ w4 ∷ w5 ∷ w6 ∷ w7 ∷ w8 ∷ more) a b c d e f g h low high ea eb ec ed ee ef eg eh = absurd (omega (arith, low, high))
