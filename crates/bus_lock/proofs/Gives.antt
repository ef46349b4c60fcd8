-- Giving the turn on keeps the rule.
use Rattle.std.proofs.Common.{◌≡◌, ℕ, inl, true, false, List, [], ◌∷◌, set, Option, Some, refl, ap, sym, subst, ◌∙◌, arith, length-set, get_or-set_other, get_or-set_same}
use mathlib.Core.Option.{none, some}
use lib.ListN.{get_elem?}
use Rattle.atomic_table.specs.Table.{State, Me, step, gives, stepped, Allows, rest}
use Rattle.atomic_table.proofs.Lists.{set_here}
use Rattle.bus_lock.specs.declared.view.View.{View}
use Rattle.bus_lock.specs.Views.{gone}
use Rattle.bus_lock.specs.Rule.{Fits, Kept}
use Rattle.bus_lock.specs.Steps.{gives_turn}
use Rattle.bus_lock.proofs.Views.{each_set, apart_set, all_same, spent_set, not_true}
use Rattle.bus_lock.proofs.Turns.{turn_of}

module _ {Value Entry Origin : Type 0} (list_of : Value → List Entry) (origin_of : Value → Origin) (author : Entry → Option ℕ) (seats : ℕ) (made_from : Origin) where
  abbrev Table : Type 0
  Table = State (Option Value) (View Entry Origin)

  abbrev Place : Type 0
  Place = Me (Option Value) (View Entry Origin)

  abbrev Rule : State (Option Value) (View Entry Origin) → Type 0
  Rule = Kept list_of origin_of author seats made_from

  abbrev Fit : List Entry → View Entry Origin → Type 0
  Fit = Fits list_of origin_of author seats made_from

  gone_fits : (log : List Entry) (view : View Entry Origin) → Fit log view → Fit log (gone view)
  gone_fits log view f = record {
    seen = f.seen;
    left = f.left;
    right = f.right;
    told = f.told;
    named = f.named;
    below = f.below;
    known = f.known;
    mine = f.mine;
    own = f.own;
    from = f.from;
  }

  gave : (table : Table) (rule : Rule table) (id : ℕ) (view : View Entry Origin) (value : Value) → get_elem? table.views id ≡ some view → view.live ≡ true → view.inside ≡ true → list_of value ≡ view.seen → view.origin ≡ Some (origin_of value)
      → Rule record { words = set table.words 0 0; homes = set table.homes 0 (some (Some value)); views = set table.views id (gone view) }
  gave table rule id view value at live inside list origin =
      let t = turn_of list_of origin_of author seats made_from table rule id view at inside in
      let w : View Entry Origin = gone view in
      let fit : Fit rule.log view = rule.each id view at live in
      let wide = rule.words in
      let deep = rule.slots in
      record {
        log = rule.log;
        words = length-set table.words 0 0 ∙ rule.words;
        slots = length-set table.homes 0 (some (Some value)) ∙ rule.slots;
        count = get_or-set_other table.words 0 1 0 0 (λ h. omega arith) ∙ rule.count;
        turn = inl record {
          value = value;
          zero = get_or-set_same table.words 0 0 0 (omega arith);
          home = set_here table.homes 0 (some (Some value)) (omega arith);
          list = list ∙ t.2;
          origin = cc (origin, fit.from);
          nobody = each_set (λ _ u. u.inside ≡ false) table.views id w refl (λ i u ne a. not_true u.inside (λ h. ne (t.0.alone i u a h ∙ t.1)));
        };
        each = each_set (λ _ u. u.live ≡ true → Fit rule.log u) table.views id w (λ _. gone_fits rule.log view fit) (λ i u _ a. rule.each i u a);
        apart = apart_set table.views id view w at (λ k h. h) rule.apart;
        total = all_same table.views id view w at refl ∙ rule.total;
        spent = spent_set table.views id w (λ l. absurd (cc (live, l))) rule.spent;
      }

  pub gives_it : (slots id : ℕ) (me : Place) (value : Value) → me.0.live ≡ true → me.0.inside ≡ true → me.1 ≡ (0, Some value) ∷ [] → list_of value ≡ me.0.seen → me.0.origin ≡ Some (origin_of value)
      → Allows Rule slots id me 0 (λ _. 0) (gives_turn {Value = Value} (step slots 0 0 0 none) me)
  gives_it slots id me value live inside has list origin table r _ at _ = (
    gone me.0,
    gives,
    tt,
    subst (λ (c : List (ℕ × Option Value)). Rule (stepped table 0 0 id c (gone me.0) gives)) (sym has) (gave table r id me.0 value at live inside list origin),
    refl,
  )

  pub gives_at : (slots id : ℕ) (me : Place) (view : View Entry Origin) (value : Value) → me ≡ (view, (0, Some value) ∷ []) → view.live ≡ true → view.inside ≡ true → list_of value ≡ view.seen → view.origin ≡ Some (origin_of value)
      → Allows Rule slots id me 0 (λ _. 0) (gives_turn {Value = Value} (step slots 0 0 0 none) me)
  gives_at slots id me view value e live inside list origin =
      subst (λ (m : Place). Allows Rule slots id m 0 (λ _. 0) (gives_turn {Value = Value} (step slots 0 0 0 none) m)) (sym e)
      (gives_it slots id (view, (0, Some value) ∷ []) value live inside refl list origin)

-- What the seat is after the step.
module _ {Value Entry Origin : Type 0} (old me me' : Me (Option Value) (View Entry Origin)) (value : Value) where
  pub after_give : (view : View Entry Origin) → me ≡ (view, (0, Some value) ∷ []) → me' ≡ (gone me.0, rest me.1) → me' ≡ (gone view, [])
  after_give view e h = h ∙ ap (λ (m : Me (Option Value) (View Entry Origin)). (gone m.0, rest m.1)) e
