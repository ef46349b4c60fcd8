-- Taking the turn keeps the rule.
use Rattle.std.proofs.Common.{◌≡◌, ◌≢◌, ℕ, suc, ◌≤◌, inr, ⊎_elim, true, eqb, List, length, get_or, set, Option, Some, refl, ap, sym, subst, ◌∙◌, arith, length-set, get_or-set_other, get_or-set_same}
use mathlib.Core.Logic.{dite}
use mathlib.Core.Option.{none, some}
use mathlib.Core.List.{IsPrefix}
use native.Mathlib.Decide.{ℕ_discrete}
use lib.ListN.{get_elem?}
use prog.Atomic.{either}
use Rattle.atomic_table.specs.Table.{State, Me, step, keeps, takes, Allows}
use Rattle.atomic_table.proofs.Lists.{set_here, set_again, exchanged}
use Rattle.bus_lock.specs.declared.view.View.{View}
use Rattle.bus_lock.specs.Lists.{entries_by}
use Rattle.bus_lock.specs.Views.{entered, Shows}
use Rattle.bus_lock.specs.Rule.{Fits, Free, Taken, Kept}
use Rattle.bus_lock.specs.Steps.{takes_turn}
use Rattle.bus_lock.proofs.Lists.{prefix_self, within_prefix}
use Rattle.bus_lock.proofs.Views.{each_set, at_length, apart_set, all_same, spent_set}

module _ {Value Entry Origin : Type 0} (list_of : Value → List Entry) (origin_of : Value → Origin) (author : Entry → Option ℕ) (seats : ℕ) (made_from : Origin) where
  abbrev Table : Type 0
  Table = State (Option Value) (View Entry Origin)

  abbrev Place : Type 0
  Place = Me (Option Value) (View Entry Origin)

  abbrev Rule : State (Option Value) (View Entry Origin) → Type 0
  Rule = Kept list_of origin_of author seats made_from

  abbrev Fit : List Entry → View Entry Origin → Type 0
  Fit = Fits list_of origin_of author seats made_from

  abbrev IsFree : List Entry → State (Option Value) (View Entry Origin) → Type 0
  IsFree = Free list_of origin_of author seats made_from

  abbrev IsTaken : List Entry → State (Option Value) (View Entry Origin) → Type 0
  IsTaken = Taken list_of origin_of author seats made_from

  -- The turn is taken.
  sees_all : (log : List Entry) (view : View Entry Origin) → Fit log view → Fit log (entered view log)
  sees_all log view f = record {
    seen = prefix_self log;
    left = f.left;
    right = f.right;
    told = f.told;
    named = f.named;
    below = f.below;
    known = λ k h. refl;
    mine = f.mine;
    own = within_prefix view.own view.seen log f.own f.seen;
    from = f.from;
  }

  pub shown : (log : List Entry) (view : View Entry Origin) (value : Value) → list_of value ≡ log → origin_of value ≡ made_from → Fit log view → Shows list_of origin_of author view value
  shown log view value e is f = record {
    begins = subst (IsPrefix view.seen) (sym e) f.seen;
    told = subst (λ (l : List Entry). view.told ≤ length l) (sym e) f.told;
    known = λ k h. ap (entries_by author k) e ∙ f.known k h;
    mine = ap (entries_by author view.name) e ∙ f.mine;
    own = f.own;
    origin = f.from ∙ ap Some (sym is);
  }

  had : (table : Table) (rule : Rule table) (n : ℕ) (id : ℕ) (view : View Entry Origin) (value : Value) → get_elem? table.views id ≡ some view → n ≢ 0 → view.live ≡ true → (f : IsFree rule.log table) → f.value ≡ value
      → Rule record { words = set table.words 0 n; homes = set table.homes 0 none; views = set table.views id (entered view (list_of value)) }
  had table rule n id view value at nz live f same =
      let w : View Entry Origin = entered view (list_of value) in
      let e : list_of value ≡ rule.log = ap list_of (sym same) ∙ f.list in
      let wide = rule.words in
      record {
        log = rule.log;
        words = length-set table.words 0 n ∙ rule.words;
        slots = length-set table.homes 0 none ∙ rule.slots;
        count = get_or-set_other table.words 0 1 n 0 (λ h. omega arith) ∙ rule.count;
        turn = inr record {
          holder = id;
          view = w;
          more = λ h. nz (sym (get_or-set_same table.words 0 n 0 (omega arith)) ∙ h);
          at = set_here table.views id w (at_length table.views id view at);
          inside = refl;
          live = live;
          whole = e;
          alone = each_set (λ i u. u.inside ≡ true → i ≡ id) table.views id w (λ _. refl) (λ i u _ a h. absurd (cc (h, f.nobody i u a)));
        };
        each = each_set (λ _ u. u.live ≡ true → Fit rule.log u) table.views id w (λ _. subst (λ (l : List Entry). Fit rule.log (entered view l)) (sym e) (sees_all rule.log view (rule.each id view at live))) (λ i u _ a. rule.each i u a);
        apart = apart_set table.views id view w at (λ k h. h) rule.apart;
        total = all_same table.views id view w at refl ∙ rule.total;
        spent = spent_set table.views id w (λ l. absurd (cc (live, l))) rule.spent;
      }

  missed : (table : Table) (rule : Rule table) (n : ℕ) → n ≢ 0 → get_or table.words 0 0 ≢ 0 → Rule record { words = set table.words 0 n; homes = table.homes; views = table.views }
  missed table rule n nz busy = let wide = rule.words in record {
    log = rule.log;
    words = length-set table.words 0 n ∙ rule.words;
    slots = rule.slots;
    count = get_or-set_other table.words 0 1 n 0 (λ h. omega arith) ∙ rule.count;
    turn = ⊎_elim (λ (f : IsFree rule.log table). absurd (busy f.zero)) (λ (t : IsTaken rule.log table). inr record {
      holder = t.holder;
      view = t.view;
      more = λ h. nz (sym (get_or-set_same table.words 0 n 0 (omega arith)) ∙ h);
      at = t.at;
      inside = t.inside;
      live = t.live;
      whole = t.whole;
      alone = t.alone;
    }) rule.turn;
    each = rule.each;
    apart = rule.apart;
    total = rule.total;
    spent = rule.spent;
  }

  pub takes_it : (slots id : ℕ) (me : Place) (f : ℕ → ℕ) (a b : ℕ) → ((n : ℕ) → f n ≢ 0) → me.0.live ≡ true → Allows Rule slots id me 0 f (takes_turn list_of origin_of author (step slots 0 a b none) me)
  takes_it slots id me f a b nz live table rule _ at _ =
      let n : ℕ = get_or table.words 0 0 in
      dite (ℕ_discrete n 0)
      (λ (hit : n ≡ 0). ⊎_elim
      (λ (free : IsFree rule.log table).
      let value : Value = free.value in (
        entered me.0 (list_of value),
        takes 0 (Some value),
        free.home,
        had table rule (f n) id me.0 value at (nz n) live free refl,
        ((λ not. absurd (not hit)), λ _. (value, refl, shown rule.log me.0 value free.list free.origin (rule.each id me.0 at live))),
      ))
      (λ (t : IsTaken rule.log table). absurd (t.more hit)) rule.turn)
      (λ miss. (
        me.0,
        keeps,
        tt,
        subst (λ (views : List (View Entry Origin)). Rule record { words = set table.words 0 (f n); homes = table.homes; views = views }) (sym (set_again table.views id me.0 at)) (missed table rule (f n) (nz n) miss),
        ((λ _. refl), λ hit. absurd (miss hit)),
      ))

pub taken_once : (n : ℕ) → either (eqb n 0) 1 n ≢ 0
taken_once n = exchanged n 0 1 (λ x. x ≢ 0) (λ _ e. absurd (omega arith)) (λ ne. ne)

pub always_two : (n : ℕ) → suc 1 ≢ 0
always_two n = λ e. absurd (omega arith)
