-- Joining two seats keeps the rule.
use Rattle.std.proofs.Common.{◌≡◌, ◌≢◌, ℕ, ◌<◌, ◌≤◌, ⊎_elim, true, false, cond, leb, List, length, set, Option, refl, sym, subst, ◌∙◌, arith}
use mathlib.Core.Option.{some}
use mathlib.Core.List.{IsPrefix}
use Rattle.std.proofs.lemmas.Bool.Decides.{leb_tells}
use lib.ListN.{get_elem?}
use Rattle.atomic_table.specs.Table.{State, Joins}
use Rattle.atomic_table.proofs.Lists.{at_set, set_else}
use Rattle.bus_lock.specs.declared.view.View.{View}
use Rattle.bus_lock.specs.Lists.{Holds, longer}
use Rattle.bus_lock.specs.Views.{joined, spent_view}
use Rattle.bus_lock.specs.Rule.{Fits, Kept}
use Rattle.bus_lock.proofs.Lists.{prefix_self, prefix_shorter, within_prefix, holds_left, holds_right, holds_either, by_between}
use Rattle.bus_lock.proofs.Views.{Apart, each_set, all_set, spent_set}
use Rattle.bus_lock.proofs.Turns.{turn_apart}

module _ {Entry : Type 0} where
  -- The longer of two beginnings.
  pub longer_is : (P : List Entry → Type 0) (xs ys : List Entry) → P xs → P ys → P (longer xs ys)
  longer_is P xs ys p q = elim (leb (length xs) (length ys)) as (λ b. P (cond b ys xs)) [ true ↦ q | false ↦ p ]

  pub longer_begins : (xs ys zs : List Entry) → IsPrefix xs zs → IsPrefix ys zs → IsPrefix xs (longer xs ys) × IsPrefix ys (longer xs ys)
  longer_begins xs ys zs p q = ⊎_elim
      (λ (t : (leb (length xs) (length ys) ≡ true) × (length xs ≤ length ys)).
      subst (λ b. IsPrefix xs (cond b ys xs) × IsPrefix ys (cond b ys xs)) (sym t.0) (prefix_shorter xs ys zs p q t.1, prefix_self ys))
      (λ (t : (leb (length xs) (length ys) ≡ false) × (length ys < length xs)).
      subst (λ b. IsPrefix xs (cond b ys xs) × IsPrefix ys (cond b ys xs)) (sym t.0) (prefix_self xs, prefix_shorter ys xs zs q p (omega arith)))
      (leb_tells (length xs) (length ys))

module _ {Entry Origin : Type 0} where
  pub apart_join : (views : List (View Entry Origin)) (id other : ℕ) (view u : View Entry Origin) → get_elem? views id ≡ some view → get_elem? views other ≡ some u → ¬ (other ≡ id) → Apart views → Apart (set (set views id (joined view u)) other spent_view)
  apart_join views id other view u at at' ne apart =
      let w : View Entry Origin = joined view u in
      let new : (j : ℕ) (b : View Entry Origin) → j ≢ id → j ≢ other → get_elem? views j ≡ some b → (k : ℕ) → Holds k w.numbers → ¬ Holds k b.numbers =
      λ j b nj nj' e k h hb. ⊎_elim (λ x. apart id j view b at e (λ q. nj (sym q)) k x hb) (λ x. apart other j u b at' e (λ q. nj' (sym q)) k x hb) (holds_either k view.numbers u.numbers h) in
      λ i j a b ei ej nij k ha hb. each_set (λ i a. (j : ℕ) (b : View Entry Origin) → get_elem? (set (set views id w) other spent_view) j ≡ some b → i ≢ j → (k : ℕ) → Holds k a.numbers → ¬ Holds k b.numbers) (set views id w) other spent_view
      (λ j b ej nij k h. absurd h)
      (λ i a nio ei j b ej nij k ha hb. each_set (λ j b. i ≢ j → Holds k b.numbers → ⊥) (set views id w) other spent_view
      (λ _ h. absurd h)
      (λ j b njo ej nij hb.
      ⊎_elim
      (λ (t : (i ≡ id) × (w ≡ a)). ⊎_elim
      (λ (x : (j ≡ id) × (w ≡ b)). nij (t.0 ∙ sym x.0))
      (λ (x : (j ≢ id) × (get_elem? views j ≡ some b)). new j b x.0 njo x.1 k (subst (λ (value : View Entry Origin). Holds k value.numbers) (sym t.1) ha) hb)
      (at_set views id j w b ej))
      (λ (t : (i ≢ id) × (get_elem? views i ≡ some a)). ⊎_elim
      (λ (x : (j ≡ id) × (w ≡ b)). new i a t.0 nio t.1 k (subst (λ (value : View Entry Origin). Holds k value.numbers) (sym x.1) hb) ha)
      (λ (x : (j ≢ id) × (get_elem? views j ≡ some b)). apart i j a b t.1 x.1 nij k ha hb)
      (at_set views id j w b ej))
      (at_set views id i w a ei))
      j b ej nij hb)
      i a ei j b ej nij k ha hb

module _ {Value Entry Origin : Type 0} (list_of : Value → List Entry) (origin_of : Value → Origin) (author : Entry → Option ℕ) (seats : ℕ) (made_from : Origin) where
  abbrev Rule : State (Option Value) (View Entry Origin) → Type 0
  Rule = Kept list_of origin_of author seats made_from

  abbrev Fit : List Entry → View Entry Origin → Type 0
  Fit = Fits list_of origin_of author seats made_from

  -- What two views know together.
  both_fit : (log : List Entry) (view u : View Entry Origin) → Fit log view → Fit log u → Fit log (joined view u)
  both_fit log view u f g =
      let l : List Entry = longer view.seen u.seen in
      let whole : IsPrefix l log = longer_is (λ xs. IsPrefix xs log) view.seen u.seen f.seen g.seen in
      let parts : IsPrefix view.seen l × IsPrefix u.seen l = longer_begins view.seen u.seen log f.seen g.seen in
      record {
        seen = whole;
        left = record { seen = f.seen; fewer = λ k h. holds_left k view.numbers u.numbers h; known = f.known };
        right = record { seen = g.seen; fewer = λ k h. holds_right k view.numbers u.numbers h; known = g.known };
        told = let a = f.told in let b = g.told in omega arith;
        named = holds_left view.name view.numbers u.numbers f.named;
        below = λ k h. ⊎_elim (λ x. f.below k x) (λ x. g.below k x) (holds_either k view.numbers u.numbers h);
        known = λ k h. ⊎_elim
            (λ x. by_between author k view.seen l log parts.0 whole (f.known k x))
            (λ x. by_between author k u.seen l log parts.1 whole (g.known k x))
            (holds_either k view.numbers u.numbers h);
        mine = f.mine;
        own = within_prefix view.own view.seen l f.own parts.0;
        from = f.from;
      }

  pub joins : (id : ℕ) (view : View Entry Origin) (other : ℕ) (u : View Entry Origin) → view.live ≡ true → view.inside ≡ false → u.live ≡ true → u.inside ≡ false → Joins Rule id view other u (joined view u) spent_view
  joins id view other u live out live' out' table rule at ne there =
      let w : View Entry Origin = joined view u in
      let views : List (View Entry Origin) = set table.views id w in
      let at' : get_elem? table.views other ≡ some u = sym (set_else table.views id other w ne) ∙ there in
      let fits : Fit rule.log w = both_fit rule.log view u (rule.each id view at live) (rule.each other u at' live') in
      record {
        log = rule.log;
        words = rule.words;
        slots = rule.slots;
        count = rule.count;
        turn = turn_apart list_of origin_of author seats made_from rule.log table.words table.homes views other u spent_view there out' refl (turn_apart list_of origin_of author seats made_from rule.log table.words table.homes table.views id view w at out out rule.turn);
        each = each_set (λ _ a. a.live ≡ true → Fit rule.log a) views other spent_view (λ l. absurd cc)
            (λ i a _ e. each_set (λ _ b. b.live ≡ true → Fit rule.log b) table.views id w (λ _. fits) (λ j b _ x. rule.each j b x) i a e);
        apart = apart_join table.views id other view u at at' ne rule.apart;
        total = let a = all_set table.views id view w at in let b = all_set views other u spent_view there in let now = rule.total in omega arith;
        spent = spent_set views other spent_view (λ l. refl) (spent_set table.views id w (λ l. absurd (cc (live, l))) rule.spent);
      }
