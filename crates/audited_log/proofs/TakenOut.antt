-- The first of what is left of a map is taken out, one after another.
use Rattle.std.proofs.Common.{◌≡◌, ℕ, ◌<◌, refl, sym, ◌∙◌, ap, arith, subst, List, [], ◌∷◌, length, Bool, true, false, cond, Option, Some, None, true≢false}
use Rattle.std.specs.Map.{lookup}
use Rattle.plain_kernel.specs.Maps.{at_key}
use Rattle.audited_log.proofs.Maps.{key_itself, key_same}

-- At each number there is what was made of what was there; or it is left, and nothing was made of it yet.
abbrev pub IsMade : {A B : Type 0} → (Option A → Option B → Type 0) → Option A → Option A → Option B → Type 0
IsMade Made all None made = Made all made
IsMade Made all (Some left) made = (all ≡ Some left) × (made ≡ None)

abbrev pub AreMade : {A B : Type 0} → (ℕ → Option A → Option B → Type 0) → List (ℕ × A) → List (ℕ × A) → List (ℕ × B) → Type 0
AreMade Made all left made = (n : ℕ) → IsMade (Made n) (lookup (at_key n) all) (lookup (at_key n) left) (lookup (at_key n) made)

module _ {A B : Type 0} (Made : ℕ → Option A → Option B → Type 0) (all : List (ℕ × A)) where
  -- before any
  pub made_none : ((n : ℕ) → Made n None None) → AreMade Made all all []
  made_none none n = by_all (lookup (at_key n) all)
    where
      by_all : (o : Option A) → IsMade (Made n) o o None
      by_all None = none n
      by_all (Some x) = (refl, refl)

  -- one more
  pub made_more : (left less : List (ℕ × A)) (made more : List (ℕ × B)) (n : ℕ) (x : A) (y : B) → AreMade Made all left made → lookup (at_key n) left ≡ Some x
      → ((m : ℕ) → lookup (at_key m) less ≡ cond (at_key n m) None (lookup (at_key m) left)) → ((m : ℕ) → lookup (at_key m) more ≡ cond (at_key n m) (Some y) (lookup (at_key m) made))
      → (lookup (at_key n) all ≡ Some x → Made n (Some x) (Some y)) → AreMade Made all less more
  made_more left less made more n x y are there without with_it of m = by_key (at_key n m) refl
    where
      here : lookup (at_key n) all ≡ Some x
      here = (subst (λ o. IsMade (Made n) (lookup (at_key n) all) o (lookup (at_key n) made)) there (are n)).0

      by_key : (b : Bool) → at_key n m ≡ b → IsMade (Made m) (lookup (at_key m) all) (lookup (at_key m) less) (lookup (at_key m) more)
      by_key true same =
          let none : lookup (at_key n) less ≡ None = without n ∙ ap (λ b. cond b None (lookup (at_key n) left)) (key_itself n) in
          let one : lookup (at_key n) more ≡ Some y = with_it n ∙ ap (λ b. cond b (Some y) (lookup (at_key n) made)) (key_itself n) in
          subst (λ m. IsMade (Made m) (lookup (at_key m) all) (lookup (at_key m) less) (lookup (at_key m) more)) (key_same n m same)
          (subst (λ o. IsMade (Made n) (lookup (at_key n) all) o (lookup (at_key n) more)) (sym none)
          (subst (λ o. IsMade (Made n) o None (lookup (at_key n) more)) (sym here) (subst (λ o. Made n (Some x) o) (sym one) (of here))))
      by_key false other =
          let left_so : lookup (at_key m) less ≡ lookup (at_key m) left = without m ∙ ap (λ b. cond b None (lookup (at_key m) left)) other in
          let made_so : lookup (at_key m) more ≡ lookup (at_key m) made = with_it m ∙ ap (λ b. cond b (Some y) (lookup (at_key m) made)) other in
          subst (λ o. IsMade (Made m) (lookup (at_key m) all) o (lookup (at_key m) more)) (sym left_so) (subst (λ o. IsMade (Made m) (lookup (at_key m) all) (lookup (at_key m) left) o)
          (sym made_so) (are m))

  -- after all of them
  pub made_all : (left : List (ℕ × A)) (made : List (ℕ × B)) → left ≡ [] → AreMade Made all left made → (n : ℕ) → Made n (lookup (at_key n) all) (lookup (at_key n) made)
  made_all left made none are n = (subst (λ left. AreMade Made all left made) none are) n

-- nothing is left where there is no first
pub nothing_left : {X : Type 0} → (es : List X) → (0 < length es → false ≡ true) → es ≡ []
nothing_left [] none = refl
nothing_left (x ∷ es) none = absurd (true≢false (sym (none (omega arith))))
