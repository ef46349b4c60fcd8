-- Facts of every view, after one view changed or came.
use Rattle.std.proofs.Common.{◌+◌, ◌≡◌, ◌≢◌, ℕ, zero, suc, ◌<◌, ◌⊎◌, inl, inr, ⊎_elim, Bool, true, false, List, [], ◌∷◌, ◌++◌, length, set, Option, refl, ap, sym, subst, ◌∙◌, arith}
use mathlib.Core.Option.{some, some-injective, some-ne-none}
use lib.ListN.{get_elem?}
use Rattle.atomic_table.proofs.Lists.{at_set}
use Rattle.bus_lock.specs.declared.view.View.{View}
use Rattle.bus_lock.specs.Lists.{Holds}
use Rattle.bus_lock.specs.Views.{no_past}
use Rattle.bus_lock.specs.Rule.{all_added, Stands}

pub not_true : (b : Bool) → ¬ (b ≡ true) → b ≡ false
not_true true h = absurd (h refl)
not_true false h = refl

module _ {Entry Origin : Type 0} where
  abbrev pub Apart : List (View Entry Origin) → Type 0
  Apart views = (i j : ℕ) (view w : View Entry Origin) → get_elem? views i ≡ some view → get_elem? views j ≡ some w → i ≢ j → (k : ℕ) → Holds k view.numbers → ¬ Holds k w.numbers

  -- A fact of every view, after one view changed.
  pub each_set : (P : ℕ → View Entry Origin → Type 0) (views : List (View Entry Origin)) (id : ℕ) (w : View Entry Origin) → P id w → ((i : ℕ) (u : View Entry Origin) → i ≢ id → get_elem? views i ≡ some u → P i u)
      → (i : ℕ) (u : View Entry Origin) → get_elem? (set views id w) i ≡ some u → P i u
  each_set P views id w mine others i u e = ⊎_elim (λ (t : (i ≡ id) × (w ≡ u)). subst (λ (x : ℕ × View Entry Origin). P x.0 x.1) (λ j. (sym t.0 j, t.1 j)) mine)
      (λ (t : (i ≢ id) × (get_elem? views i ≡ some u)). others i u t.0 t.1) (at_set views id i w u e)

  pub at_length : (views : List (View Entry Origin)) (i : ℕ) (view : View Entry Origin) → get_elem? views i ≡ some view → i < length views
  at_length [] i view e = absurd (some-ne-none view (sym e))
  at_length (x ∷ xs) zero view e = omega arith
  at_length (x ∷ xs) (suc i) view e = let l = at_length xs i view e in omega arith

  -- The numbers of the new view are some of those of the old one.
  pub apart_set : (views : List (View Entry Origin)) (id : ℕ) (view w : View Entry Origin) → get_elem? views id ≡ some view → ((k : ℕ) → Holds k w.numbers → Holds k view.numbers) → Apart views → Apart (set views id w)
  apart_set views id view w at fewer apart i j a b ei ej ne k ha hb =
      ⊎_elim
      (λ (t : (i ≡ id) × (w ≡ a)). ⊎_elim
      (λ (u : (j ≡ id) × (w ≡ b)). ne (t.0 ∙ sym u.0))
      (λ (u : (j ≢ id) × (get_elem? views j ≡ some b)). apart id j view b at u.1 (λ e. u.0 (sym e)) k (fewer k (subst (λ (value : View Entry Origin). Holds k value.numbers) (sym t.1) ha)) hb)
      (at_set views id j w b ej))
      (λ (t : (i ≢ id) × (get_elem? views i ≡ some a)). ⊎_elim
      (λ (u : (j ≡ id) × (w ≡ b)). apart i id a view t.1 at t.0 k ha (fewer k (subst (λ (value : View Entry Origin). Holds k value.numbers) (sym u.1) hb)))
      (λ (u : (j ≢ id) × (get_elem? views j ≡ some b)). apart i j a b t.1 u.1 ne k ha hb)
      (at_set views id j w b ej))
      (at_set views id i w a ei)

  pub all_set : (views : List (View Entry Origin)) (i : ℕ) (view w : View Entry Origin) → get_elem? views i ≡ some view → all_added (set views i w) + view.added ≡ all_added views + w.added
  all_set [] i view w e = absurd (some-ne-none view (sym e))
  all_set (x ∷ xs) zero view w e = let is : x.added ≡ view.added = ap (λ (u : View Entry Origin). u.added) (some-injective x view e) in omega arith
  all_set (x ∷ xs) (suc i) view w e = let r = all_set xs i view w e in omega arith

  pub all_same : (views : List (View Entry Origin)) (i : ℕ) (view w : View Entry Origin) → get_elem? views i ≡ some view → w.added ≡ view.added → all_added (set views i w) ≡ all_added views
  all_same views i view w e is = let r = all_set views i view w e in omega arith

  pub all_end : (views : List (View Entry Origin)) (w : View Entry Origin) → all_added (views ++ w ∷ []) ≡ all_added views + w.added
  all_end [] w = omega arith
  all_end (x ∷ xs) w = let r = all_end xs w in omega arith

  pub all_zero : (views : List (View Entry Origin)) → ((i : ℕ) (u : View Entry Origin) → get_elem? views i ≡ some u → u.added ≡ 0) → all_added views ≡ 0
  all_zero [] h = refl
  all_zero (x ∷ xs) h = let a = h 0 x refl in let b = all_zero xs (λ i u e. h (suc i) u e) in omega arith

  -- One view has added all.
  pub all_one : (views : List (View Entry Origin)) (id : ℕ) (view : View Entry Origin) → get_elem? views id ≡ some view → ((i : ℕ) (u : View Entry Origin) → get_elem? views i ≡ some u → i ≢ id → u.added ≡ 0) → all_added views ≡ view.added
  all_one [] id view e h = absurd (some-ne-none view (sym e))
  all_one (x ∷ xs) zero view e h =
      let is : x.added ≡ view.added = ap (λ (u : View Entry Origin). u.added) (some-injective x view e) in
      let b = all_zero xs (λ i u a. h (suc i) u a (λ n. absurd (omega arith))) in omega arith
  all_one (x ∷ xs) (suc id) view e h =
      let a = h 0 x refl (λ n. absurd (omega arith)) in
      let b = all_one xs id view e (λ i u x' n. h (suc i) u x' (λ m. n (omega arith))) in omega arith

  abbrev pub Spent : List (View Entry Origin) → Type 0
  Spent views = (i : ℕ) (u : View Entry Origin) → get_elem? views i ≡ some u → u.live ≡ false → u.added ≡ 0

  pub spent_set : (views : List (View Entry Origin)) (id : ℕ) (w : View Entry Origin) → (w.live ≡ false → w.added ≡ 0) → Spent views → Spent (set views id w)
  spent_set views id w mine spent = each_set (λ _ u. u.live ≡ false → u.added ≡ 0) views id w mine (λ i u _ e. spent i u e)

  pub at_end : (views : List (View Entry Origin)) (w u : View Entry Origin) (i : ℕ) → get_elem? (views ++ w ∷ []) i ≡ some u → (get_elem? views i ≡ some u) ⊎ ((i ≡ length views) × (w ≡ u))
  at_end [] w u zero e = inr (refl, some-injective w u e)
  at_end [] w u (suc i) e = absurd (some-ne-none u (sym e))
  at_end (x ∷ xs) w u zero e = inl e
  at_end (x ∷ xs) w u (suc i) e = ⊎_elim (λ t. inl t) (λ t. inr (ap suc t.0, t.1)) (at_end xs w u i e)

  -- A fact of every view, with one view more.
  pub each_end : (P : View Entry Origin → Type 0) (views : List (View Entry Origin)) (w : View Entry Origin) → P w → ((i : ℕ) (u : View Entry Origin) → get_elem? views i ≡ some u → P u) → (i : ℕ) (u : View Entry Origin) → get_elem? (views ++ w ∷ []) i ≡ some u → P u
  each_end P views w mine others i u e = ⊎_elim (λ t. others i u t) (λ t. subst P t.1 mine) (at_end views w u i e)

  -- A new view has numbers that no other view has.
  pub apart_end : (views : List (View Entry Origin)) (w : View Entry Origin) → ((i : ℕ) (u : View Entry Origin) → get_elem? views i ≡ some u → (k : ℕ) → Holds k u.numbers → ¬ Holds k w.numbers) → Apart views → Apart (views ++ w ∷ [])
  apart_end views w new apart i j a b ei ej ne k ha hb =
      ⊎_elim
      (λ (t : get_elem? views i ≡ some a). ⊎_elim
      (λ (u : get_elem? views j ≡ some b). apart i j a b t u ne k ha hb)
      (λ (u : (j ≡ length views) × (w ≡ b)). new i a t k ha (subst (λ (value : View Entry Origin). Holds k value.numbers) (sym u.1) hb))
      (at_end views w b j ej))
      (λ (t : (i ≡ length views) × (w ≡ a)). ⊎_elim
      (λ (u : get_elem? views j ≡ some b). new j b u k hb (subst (λ (value : View Entry Origin). Holds k value.numbers) (sym t.1) ha))
      (λ (u : (j ≡ length views) × (w ≡ b)). ne (t.0 ∙ sym u.0))
      (at_end views w b j ej))
      (at_end views w a i ei)

module _ {Entry : Type 0} (author : Entry → Option ℕ) where
  pub nothing_past : (log : List Entry) (numbers : List ℕ) → Stands author log numbers no_past
  nothing_past log numbers = record {
    seen = (log, refl);
    fewer = λ k h. absurd h;
    known = λ k h. absurd h;
  }
