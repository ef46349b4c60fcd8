-- Beginnings of one list, entries by an author, and lists within lists.
use Rattle.std.proofs.Common.{◌≡◌, ◌≢◌, ℕ, zero, suc, ◌+◌, ◌<◌, ◌≤◌, ◌⊎◌, inl, inr, ⊎_elim, false, cond, List, [], ◌∷◌, ◌++◌, length, drop, All, Option, refl, ap, sym, subst, ◌∙◌, arith, append_assoc, length-append, ne_eqb}
use Rattle.std.proofs.Math.Seq.{drop-append_seam}
use Rattle.std.proofs.lemmas.List.Elements.{filter-append}
use mathlib.Core.List.{IsPrefix}
use mathlib.Core.Logic.{dite}
use native.Mathlib.Decide.{ℕ_discrete}
use Rattle.bus_lock.specs.Lists.{Holds, numbers_from, entries_by, is_author, IsWithin, MayAdd}

pub prefix_self : {A : Type 0} (xs : List A) → IsPrefix xs xs
prefix_self [] = ([], refl)
prefix_self (x ∷ xs) = (let r = prefix_self xs in r.0, ap (λ ys. x ∷ ys) (prefix_self xs).1)

pub prefix_trans : {A : Type 0} (xs ys zs : List A) → IsPrefix xs ys → IsPrefix ys zs → IsPrefix xs zs
prefix_trans xs ys zs p q = (p.0 ++ q.0, sym (append_assoc xs p.0 q.0) ∙ (ap (λ w. w ++ q.0) p.1 ∙ q.1))

-- Of two beginnings of one list the shorter begins the longer.
pub prefix_shorter : {A : Type 0} (xs ys zs : List A) → IsPrefix xs zs → IsPrefix ys zs → length xs ≤ length ys → IsPrefix xs ys
prefix_shorter [] ys zs p q le = (ys, refl)
prefix_shorter (x ∷ xs) [] zs p q le = absurd (omega arith)
prefix_shorter (x ∷ xs) (y ∷ ys) [] p q le = absurd (cc (p.1))
prefix_shorter (x ∷ xs) (y ∷ ys) (z ∷ zs) p q le =
    let heads : x ≡ y = cc (p.1, q.1) in
    let rest = prefix_shorter xs ys zs (p.0, cc (p.1)) (q.0, cc (q.1)) (omega arith) in
    (rest.0, cc (heads, rest.1))

pub prefix_length : {A : Type 0} (xs ys : List A) → IsPrefix xs ys → length xs ≤ length ys
prefix_length xs ys p = omega (arith, sym (ap length p.1) ∙ length-append xs p.0)

-- A beginning as long as the whole is the whole.
pub prefix_whole : {A : Type 0} (xs ys : List A) → IsPrefix xs ys → length ys ≤ length xs → xs ≡ ys
prefix_whole [] [] p le = refl
prefix_whole [] (y ∷ ys) p le = absurd (omega arith)
prefix_whole (x ∷ xs) [] p le = absurd (cc (p.1))
prefix_whole (x ∷ xs) (y ∷ ys) p le =
    let rest = prefix_whole xs ys (p.0, cc (p.1)) (omega arith) in cc (p.1, rest)

-- What a longer list has more.
pub prefix_split : {A : Type 0} (xs ys : List A) → IsPrefix xs ys → xs ++ drop (length xs) ys ≡ ys
prefix_split xs ys p = subst (λ zs. xs ++ drop (length xs) zs ≡ zs) p.1 (ap (λ zs. xs ++ zs) (drop-append_seam xs p.0))

pub within_self : {A : Type 0} (xs ys : List A) → IsWithin xs ys → (zs : List A) → IsWithin xs (ys ++ zs)
within_self [] ys h zs = tt
within_self (x ∷ xs) [] h zs = absurd h
within_self (x ∷ xs) (y ∷ ys) h zs = ⊎_elim (λ t. inl (t.0, within_self xs ys t.1 zs)) (λ t. inr (within_self (x ∷ xs) ys t zs)) h

pub within_prefix : {A : Type 0} (xs ys zs : List A) → IsWithin xs ys → IsPrefix ys zs → IsWithin xs zs
within_prefix xs ys zs h p = subst (λ l. IsWithin xs l) p.1 (within_self xs ys h p.0)

within_all : {A : Type 0} (zs : List A) → IsWithin zs zs
within_all [] = tt
within_all (z ∷ zs) = inl (refl, within_all zs)

within_after : {A : Type 0} (ys zs : List A) → IsWithin zs (ys ++ zs)
within_after [] zs = within_all zs
within_after (y ∷ ys) [] = tt
within_after (y ∷ ys) (z ∷ zs) = inr (within_after ys (z ∷ zs))

pub within_more : {A : Type 0} (xs ys zs : List A) → IsWithin xs ys → IsWithin (xs ++ zs) (ys ++ zs)
within_more [] ys zs h = within_after ys zs
within_more (x ∷ xs) [] zs h = absurd h
within_more (x ∷ xs) (y ∷ ys) zs h = ⊎_elim (λ t. inl (t.0, within_more xs ys zs t.1)) (λ t. inr (within_more (x ∷ xs) ys zs t)) h

pub holds_left : (k : ℕ) (xs ys : List ℕ) → Holds k xs → Holds k (xs ++ ys)
holds_left k [] ys h = absurd h
holds_left k (x ∷ xs) ys h = ⊎_elim (λ t. inl t) (λ t. inr (holds_left k xs ys t)) h

pub holds_right : (k : ℕ) (xs ys : List ℕ) → Holds k ys → Holds k (xs ++ ys)
holds_right k [] ys h = h
holds_right k (x ∷ xs) ys h = inr (holds_right k xs ys h)

pub holds_either : (k : ℕ) (xs ys : List ℕ) → Holds k (xs ++ ys) → Holds k xs ⊎ Holds k ys
holds_either k [] ys h = inr h
holds_either k (x ∷ xs) ys h = ⊎_elim (λ t. inl (inl t)) (λ t. ⊎_elim (λ u. inl (inr u)) (λ u. inr u) (holds_either k xs ys t)) h

pub numbers_within : (k a n : ℕ) → Holds k (numbers_from a n) → (a ≤ k) × (k < a + n)
numbers_within k a zero h = absurd h
numbers_within k a (suc n) h = ⊎_elim (λ t. (omega arith, omega arith)) (λ t. let r = numbers_within k (suc a) n t in (omega arith, omega arith)) h

pub in_numbers : (k a n : ℕ) → a ≤ k → k < a + n → Holds k (numbers_from a n)
in_numbers k a zero low high = absurd (omega arith)
in_numbers k a (suc n) low high = dite (ℕ_discrete k a) (λ e. inl e) (λ not. inr (in_numbers k (suc a) n (omega arith) (omega arith)))

module _ {Entry : Type 0} (author : Entry → Option ℕ) where
  other_number : (name k : ℕ) (e : Entry) → k ≢ name → MayAdd author name e → is_author k (author e) ≡ false
  other_number name k e ne may = ⊎_elim (λ t. ap (is_author k) t) (λ t. ap (is_author k) t ∙ ne_eqb k name ne) may

  -- Entries that another may add are none of mine.
  pub by_other : (name k : ℕ) (es : List Entry) → k ≢ name → All (MayAdd author name) es → entries_by author k es ≡ []
  by_other name k [] ne all = refl
  by_other name k (e ∷ es) ne all =
      ap (λ b. cond b (e ∷ entries_by author k es) (entries_by author k es)) (other_number name k e ne (all 0 e (omega arith)))
      ∙ by_other name k es ne (λ j d l. all (suc j) d (omega arith))

  pub by_append : (k : ℕ) (xs ys : List Entry) → entries_by author k (xs ++ ys) ≡ entries_by author k xs ++ entries_by author k ys
  by_append k xs ys = filter-append (λ e. is_author k (author e)) xs ys

  by_prefix : (k : ℕ) (xs ys : List Entry) → IsPrefix xs ys → IsPrefix (entries_by author k xs) (entries_by author k ys)
  by_prefix k xs ys p = (entries_by author k p.0, sym (by_append k xs p.0) ∙ ap (entries_by author k) p.1)

  -- What a beginning has of an author, a longer beginning has.
  pub by_between : (k : ℕ) (xs ys zs : List Entry) → IsPrefix xs ys → IsPrefix ys zs → entries_by author k zs ≡ entries_by author k xs → entries_by author k zs ≡ entries_by author k ys
  by_between k xs ys zs p q e =
      let short = prefix_length (entries_by author k xs) (entries_by author k ys) (by_prefix k xs ys p) in
      sym (prefix_whole (entries_by author k ys) (entries_by author k zs) (by_prefix k ys zs q) (omega (arith, ap length e)))
