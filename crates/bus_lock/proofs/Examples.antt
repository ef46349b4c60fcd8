-- Small lists, by which the definitions can be compared with their comments. An entry is its author's number here.
use Rattle.std.proofs.Common.{◌≡◌, ℕ, inl, inr, ⊎_elim, [], ◌∷◌, Some, None, refl}
use Rattle.bus_lock.specs.Lists.{numbers_from, entries_by, MayAdd, IsWithin, longer}

-- The seat 7 and the two after it.
three_numbers : numbers_from 7 3 ≡ 7 ∷ 8 ∷ 9 ∷ []
three_numbers = refl

-- The entries by 1, in order.
two_entries : entries_by (λ (entry : ℕ). Some entry) 1 (1 ∷ 0 ∷ 1 ∷ []) ≡ 1 ∷ 1 ∷ []
two_entries = refl

-- An entry with no author is by nobody.
no_author : entries_by (λ (entry : ℕ). None) 1 (1 ∷ 0 ∷ 1 ∷ []) ≡ []
no_author = refl

-- One entry is left out.
left_out : IsWithin {Entry = ℕ} (1 ∷ 3 ∷ []) (1 ∷ 2 ∷ 3 ∷ [])
left_out = inl (refl, inr (inl (refl, tt)))

-- The order may not change.
order_changed : ¬ IsWithin {Entry = ℕ} (2 ∷ 1 ∷ []) (1 ∷ 2 ∷ [])
order_changed h = ⊎_elim (λ t. absurd (cc (t.0))) (λ t. ⊎_elim (λ u. u.1) (λ u. u) t) h

-- One entry does not stand for two.
taken_twice : ¬ IsWithin {Entry = ℕ} (1 ∷ 1 ∷ []) (1 ∷ [])
taken_twice h = ⊎_elim (λ t. t.1) (λ t. t) h

-- The seat 1 may not add an entry by 2.
of_another : ¬ MayAdd (λ (entry : ℕ). Some entry) 1 2
of_another h = ⊎_elim (λ t. absurd (cc t)) (λ t. absurd (cc t)) h

-- The second of two that are equally long.
equally_long : longer {Entry = ℕ} (1 ∷ []) (2 ∷ []) ≡ 2 ∷ []
equally_long = refl
