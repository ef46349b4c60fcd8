-- A fact of each element of a list, by its place.
use Rattle.std.proofs.Common.{◌≡◌, ℕ, ◌<◌, true, List, [], ◌∷◌, ◌++◌, length, get_or, Result, Ok, Err, OnOk, is_ok, subst, arith, length-append}
use Rattle.std.proofs.Math.Seq.{get_or-append_seam}

-- Each element has the fact, with its place.
abbrev pub Each : {A : Type 0} → (ℕ → A → Type 0) → List A → Type 0
Each {A} P xs = (i : ℕ) (d : A) → i < length xs → P i (get_or xs i d)

module _ {A : Type 0} (P : ℕ → A → Type 0) (xs : List A) (x : A) where
  pub each_last : Each P (xs ++ x ∷ []) → P (length xs) x
  each_last all = subst (P (length xs)) (get_or-append_seam xs x [] x) (all (length xs) x (omega (arith, length-append xs (x ∷ []))))

-- The fact of an answer that is Ok.
pub on_ok : {A B : Type 0} (r : Result A B) (P : Type 0) → is_ok r ≡ true → OnOk r P → P
on_ok (Ok x) P e h = h
on_ok (Err x) P e h = absurd (cc e)
