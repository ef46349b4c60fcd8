-- Whose turn it is, after a view changed or came.
use Rattle.std.proofs.Common.{◌≡◌, ◌≢◌, ℕ, ◌⊎◌, inl, inr, ⊎_elim, true, false, List, [], ◌∷◌, ◌++◌, length, get_or, set, Option, ap, sym, ◌∙◌}
use mathlib.Core.Logic.{dite}
use mathlib.Core.Option.{some, some-injective}
use native.Mathlib.Decide.{ℕ_discrete}
use lib.ListN.{get_elem?}
use Rattle.atomic_table.specs.Table.{State}
use Rattle.atomic_table.proofs.Lists.{set_here, set_else, at_longer}
use Rattle.bus_lock.specs.declared.view.View.{View}
use Rattle.bus_lock.specs.Rule.{Free, Taken, Kept}
use Rattle.bus_lock.proofs.Views.{each_set, at_length, each_end, at_end}

module _ {Value Entry Origin : Type 0} (list_of : Value → List Entry) (origin_of : Value → Origin) (author : Entry → Option ℕ) (seats : ℕ) (made_from : Origin) where
  abbrev Table : Type 0
  Table = State (Option Value) (View Entry Origin)

  abbrev Rule : State (Option Value) (View Entry Origin) → Type 0
  Rule = Kept list_of origin_of author seats made_from

  abbrev IsFree : List Entry → State (Option Value) (View Entry Origin) → Type 0
  IsFree = Free list_of origin_of author seats made_from

  abbrev IsTaken : List Entry → State (Option Value) (View Entry Origin) → Type 0
  IsTaken = Taken list_of origin_of author seats made_from

  -- Whose turn it is, after a view changed that is inside as before and has seen the same.
  pub turn_stays : (log : List Entry) (table : Table) (id : ℕ) (view w : View Entry Origin) (words : List ℕ) → get_elem? table.views id ≡ some view → w.inside ≡ view.inside → w.live ≡ view.live → w.seen ≡ view.seen → get_or words 0 0 ≡ get_or table.words 0 0
      → IsFree log table ⊎ IsTaken log table → IsFree log record { words = words; homes = table.homes; views = set table.views id w } ⊎ IsTaken log record { words = words; homes = table.homes; views = set table.views id w }
  turn_stays log table id view w words at inside live seen same (inl f) = inl record {
    value = f.value;
    zero = same ∙ f.zero;
    home = f.home;
    list = f.list;
    origin = f.origin;
    nobody = each_set (λ _ u. u.inside ≡ false) table.views id w (inside ∙ f.nobody id view at) (λ i u _ e. f.nobody i u e);
  }
  turn_stays log table id view w words at inside live seen same (inr t) =
      let only : (i : ℕ) (u : View Entry Origin) → get_elem? (set table.views id w) i ≡ some u → u.inside ≡ true → i ≡ t.holder =
      each_set (λ i u. u.inside ≡ true → i ≡ t.holder) table.views id w (λ h. t.alone id view at (sym inside ∙ h)) (λ i u _ e. t.alone i u e) in
      dite (ℕ_discrete t.holder id)
      (λ is. let one : t.view ≡ view = some-injective t.view view (sym t.at ∙ ap (get_elem? table.views) is ∙ at) in inr record {
        holder = id;
        view = w;
        more = λ e. t.more (sym same ∙ e);
        at = set_here table.views id w (at_length table.views id view at);
        inside = inside ∙ ap (λ (u : View Entry Origin). u.inside) (sym one) ∙ t.inside;
        live = live ∙ ap (λ (u : View Entry Origin). u.live) (sym one) ∙ t.live;
        whole = seen ∙ ap (λ (u : View Entry Origin). u.seen) (sym one) ∙ t.whole;
        alone = λ i u e h. only i u e h ∙ is;
      })
      (λ not. inr record {
        holder = t.holder;
        view = t.view;
        more = λ e. t.more (sym same ∙ e);
        at = set_else table.views id t.holder w not ∙ t.at;
        inside = t.inside;
        live = t.live;
        whole = t.whole;
        alone = only;
      })

  -- Whose turn it is, after a view changed that is outside.
  pub turn_apart : (log : List Entry) (words : List ℕ) (homes : List (mathlib.Core.Option.Option (Option Value))) (views : List (View Entry Origin)) (id : ℕ) (view w : View Entry Origin) → get_elem? views id ≡ some view → view.inside ≡ false → w.inside ≡ false
      → IsFree log record { words = words; homes = homes; views = views } ⊎ IsTaken log record { words = words; homes = homes; views = views }
      → IsFree log record { words = words; homes = homes; views = set views id w } ⊎ IsTaken log record { words = words; homes = homes; views = set views id w }
  turn_apart log words homes views id view w at out out' (inl f) = inl record {
    value = f.value;
    zero = f.zero;
    home = f.home;
    list = f.list;
    origin = f.origin;
    nobody = each_set (λ _ u. u.inside ≡ false) views id w out' (λ i u _ e. f.nobody i u e);
  }
  turn_apart log words homes views id view w at out out' (inr t) =
      let ne : t.holder ≢ id = λ e. let one : t.view ≡ view = some-injective t.view view (sym t.at ∙ ap (get_elem? views) e ∙ at) in absurd (cc (t.inside, out, one)) in
      inr record {
        holder = t.holder;
        view = t.view;
        more = t.more;
        at = set_else views id t.holder w ne ∙ t.at;
        inside = t.inside;
        live = t.live;
        whole = t.whole;
        alone = each_set (λ i u. u.inside ≡ true → i ≡ t.holder) views id w (λ h. absurd (cc (h, out'))) (λ i u _ e. t.alone i u e);
      }

  pub at_longer_here : (views : List (View Entry Origin)) (w u : View Entry Origin) (i : ℕ) → get_elem? views i ≡ some u → get_elem? (views ++ w ∷ []) i ≡ some u
  at_longer_here views w u i e = at_longer views (w ∷ []) i u e

  -- Whose turn it is, with a view more that is not inside.
  pub turn_end : (log : List Entry) (words : List ℕ) (homes : List (mathlib.Core.Option.Option (Option Value))) (views : List (View Entry Origin)) (w : View Entry Origin) → w.inside ≡ false
      → IsFree log record { words = words; homes = homes; views = views } ⊎ IsTaken log record { words = words; homes = homes; views = views }
      → IsFree log record { words = words; homes = homes; views = views ++ w ∷ [] } ⊎ IsTaken log record { words = words; homes = homes; views = views ++ w ∷ [] }
  turn_end log words homes views w out (inl f) = inl record {
    value = f.value;
    zero = f.zero;
    home = f.home;
    list = f.list;
    origin = f.origin;
    nobody = each_end (λ u. u.inside ≡ false) views w out f.nobody;
  }
  turn_end log words homes views w out (inr t) = inr record {
    holder = t.holder;
    view = t.view;
    more = t.more;
    at = at_longer_here views w t.view t.holder t.at;
    inside = t.inside;
    live = t.live;
    whole = t.whole;
    alone = λ i u e h. ⊎_elim (λ (x : get_elem? views i ≡ some u). t.alone i u x h) (λ (x : (i ≡ length views) × (w ≡ u)). absurd (cc (h, out, x.1))) (at_end views w u i e);
  }

  -- Who is inside has the turn.
  pub turn_of : (table : Table) (rule : Rule table) (id : ℕ) (view : View Entry Origin) → get_elem? table.views id ≡ some view → view.inside ≡ true → (t : IsTaken rule.log table) × (t.holder ≡ id) × (view.seen ≡ rule.log)
  turn_of table rule id view at inside = ⊎_elim
      (λ (f : IsFree rule.log table). absurd (cc (inside, f.nobody id view at)))
      (λ (t : IsTaken rule.log table).
      let is : id ≡ t.holder = t.alone id view at inside in
      let one : t.view ≡ view = some-injective t.view view (sym t.at ∙ ap (get_elem? table.views) (sym is) ∙ at) in
      (t, sym is, ap (λ (u : View Entry Origin). u.seen) (sym one) ∙ t.whole))
      rule.turn
