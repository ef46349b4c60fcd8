-- A seat with every number finds the value at home.
use Rattle.std.proofs.Common.{◌≡◌, ◌≢◌, ℕ, ◌<◌, ⊎_elim, true, false, List, length, Option, Some, ap, sym, subst, ◌∙◌}
use mathlib.Core.Option.{some, some-injective}
use lib.ListN.{get_elem?}
use Rattle.atomic_table.specs.Table.{State, Final, Seen}
use Rattle.atomic_table.specs.declared.shared.Seat.{Seat}
use Rattle.bus_lock.specs.declared.view.View.{View}
use Rattle.bus_lock.specs.Lists.{Holds, entries_by}
use Rattle.bus_lock.specs.Views.{Shows}
use Rattle.bus_lock.specs.Rule.{Fits, Free, Taken, Kept}
use Rattle.bus_lock.proofs.Views.{all_one, not_true}
use Rattle.bus_lock.proofs.Takes.{shown}

module _ {Value Entry Origin : Type 0} (list_of : Value → List Entry) (origin_of : Value → Origin) (author : Entry → Option ℕ) (seats : ℕ) (made_from : Origin) where
  abbrev Table : Type 0
  Table = State (Option Value) (View Entry Origin)

  abbrev Rule : State (Option Value) (View Entry Origin) → Type 0
  Rule = Kept list_of origin_of author seats made_from

  abbrev Fit : List Entry → View Entry Origin → Type 0
  Fit = Fits list_of origin_of author seats made_from

  abbrev IsFree : List Entry → State (Option Value) (View Entry Origin) → Type 0
  IsFree = Free list_of origin_of author seats made_from

  abbrev IsTaken : List Entry → State (Option Value) (View Entry Origin) → Type 0
  IsTaken = Taken list_of origin_of author seats made_from

  -- A seat with every number that is not inside finds the value at home.
  pub closes : (table : Table) (rule : Rule table) (id : ℕ) (view : View Entry Origin) → get_elem? table.views id ≡ some view → view.inside ≡ false → ((k : ℕ) → k < seats → Holds k view.numbers) → IsFree rule.log table
  closes table rule id view at out all = ⊎_elim
      (λ (f : IsFree rule.log table). f)
      (λ (t : IsTaken rule.log table).
      let fit : Fit rule.log t.view = rule.each t.holder t.view t.at t.live in
      let ne : t.holder ≢ id = λ e. let one : t.view ≡ view = some-injective t.view view (sym t.at ∙ ap (get_elem? table.views) e ∙ at) in absurd (cc (t.inside, out, one)) in
      absurd (rule.apart t.holder id t.view view t.at at ne t.view.name fit.named (all t.view.name (fit.below t.view.name fit.named))))
      rule.turn

  -- A seat with every number has, together with those that were joined into it, added the whole list.
  pub added_all : (table : Table) (rule : Rule table) (id : ℕ) (view : View Entry Origin) → get_elem? table.views id ≡ some view → ((k : ℕ) → k < seats → Holds k view.numbers) → length rule.log ≡ view.added
  added_all table rule id view at all =
      let none : (i : ℕ) (u : View Entry Origin) → get_elem? table.views i ≡ some u → i ≢ id → u.added ≡ 0 = λ i u a ne.
      rule.spent i u a (not_true u.live (λ live. let fit : Fit rule.log u = rule.each i u a live in rule.apart i id u view a at ne u.name fit.named (all u.name (fit.below u.name fit.named)))) in
      sym rule.total ∙ all_one table.views id view at none

  -- What a seat with every number finds at the end.
  pub record Found (view : View Entry Origin) (slot : Option Value) : Type 0 where
    pub value : Value
    pub is : slot ≡ Some value
    pub shows : Shows list_of origin_of author view value
    pub known : (k : ℕ) → k < seats → entries_by author k (list_of value) ≡ entries_by author k view.seen
    pub all : length (list_of value) ≡ view.added

  pub finds : (words : List ℕ) (xs : List (Option Value)) (p q : Seat (Option Value) (View Entry Origin)) (slot : Option Value) → p ≡ q → Final (Seen (Kept list_of origin_of author seats made_from) p.id p.me.0) words xs
      → q.me.0.live ≡ true → q.me.0.inside ≡ false → ((k : ℕ) → k < seats → Holds k q.me.0.numbers) → get_elem? xs 0 ≡ some slot → Found q.me.0 slot
  finds words xs p q slot e f live out all at =
      let view : View Entry Origin = q.me.0 in
      let g : Final (Seen (Kept list_of origin_of author seats made_from) q.id q.me.0) words xs = subst (λ (x : Seat (Option Value) (View Entry Origin)). Final (Seen (Kept list_of origin_of author seats made_from) x.id x.me.0) words xs) e f in
      let table = g.0 in
      let rule : Kept list_of origin_of author seats made_from table = g.1.0 in
      let free : Free list_of origin_of author seats made_from rule.log table = closes table rule q.id view g.1.1 out all in
      let fit : Fits list_of origin_of author seats made_from rule.log view = rule.each q.id view g.1.1 live in
      record {
        value = free.value;
        is = some-injective slot (Some free.value) (sym at ∙ g.4 0 (Some free.value) free.home);
        shows = shown list_of origin_of author seats made_from rule.log view free.value free.list free.origin fit;
        known = λ k l. ap (entries_by author k) free.list ∙ fit.known k (all k l);
        all = ap length free.list ∙ added_all table rule q.id view g.1.1 all;
      }

  -- What the value then shows.
  pub record Shown (view : View Entry Origin) (value : Value) : Type 0 where
    pub shows : Shows list_of origin_of author view value
    pub known : (k : ℕ) → k < seats → entries_by author k (list_of value) ≡ entries_by author k view.seen
    pub all : length (list_of value) ≡ view.added

  pub finds_value : (words : List ℕ) (xs : List (Option Value)) (p q : Seat (Option Value) (View Entry Origin)) (slot : Option Value) (value : Value) → p ≡ q → Final (Seen (Kept list_of origin_of author seats made_from) p.id p.me.0) words xs
      → q.me.0.live ≡ true → q.me.0.inside ≡ false → ((k : ℕ) → k < seats → Holds k q.me.0.numbers) → get_elem? xs 0 ≡ some slot → slot ≡ Some value → Shown q.me.0 value
  finds_value words xs p q slot value e f live out all at is =
      let found : Found q.me.0 slot = finds words xs p q slot e f live out all at in
      let same : found.value ≡ value = cc (found.is, is) in
      subst (Shown q.me.0) same (record { shows = found.shows; known = found.known; all = found.all })
