-- Loading the count keeps the rule, and tells what was known before a join.
use Rattle.std.proofs.Common.{◌≡◌, ℕ, true, List, length, get_or, set, Option, refl, sym, subst, ◌∙◌, arith}
use mathlib.Core.Option.{none, some}
use lib.ListN.{get_elem?}
use lib.Seq.{set-get_or}
use Rattle.atomic_table.specs.Table.{State, Me, step, keeps, Allows}
use Rattle.bus_lock.specs.declared.view.Past.{Past}
use Rattle.bus_lock.specs.declared.view.View.{View}
use Rattle.bus_lock.specs.Lists.{Holds}
use Rattle.bus_lock.specs.Views.{informed, Remembers}
use Rattle.bus_lock.specs.Rule.{Stands, Fits, Kept}
use Rattle.bus_lock.specs.Steps.{loads_count}
use Rattle.bus_lock.proofs.Lists.{prefix_shorter}
use Rattle.bus_lock.proofs.Views.{each_set, apart_set, all_same, spent_set}
use Rattle.bus_lock.proofs.Turns.{turn_stays}

module _ {Value Entry Origin : Type 0} (list_of : Value → List Entry) (origin_of : Value → Origin) (author : Entry → Option ℕ) (seats : ℕ) (made_from : Origin) where
  abbrev Table : Type 0
  Table = State (Option Value) (View Entry Origin)

  abbrev Place : Type 0
  Place = Me (Option Value) (View Entry Origin)

  abbrev Rule : State (Option Value) (View Entry Origin) → Type 0
  Rule = Kept list_of origin_of author seats made_from

  abbrev Fit : List Entry → View Entry Origin → Type 0
  Fit = Fits list_of origin_of author seats made_from

  -- The rule after a step that changed one view and left the list.
  unmoved : (table : Table) (rule : Rule table) (id : ℕ) (view w : View Entry Origin) → get_elem? table.views id ≡ some view → w.inside ≡ view.inside → w.live ≡ view.live → w.seen ≡ view.seen → w.numbers ≡ view.numbers → w.added ≡ view.added → (w.live ≡ true → Fit rule.log w)
      → Rule record { words = table.words; homes = table.homes; views = set table.views id w }
  unmoved table rule id view w at inside live seen numbers added fits = record {
    log = rule.log;
    words = rule.words;
    slots = rule.slots;
    count = rule.count;
    turn = turn_stays list_of origin_of author seats made_from rule.log table id view w table.words at inside live seen refl rule.turn;
    each = each_set (λ _ u. u.live ≡ true → Fit rule.log u) table.views id w fits (λ i u _ e. rule.each i u e);
    apart = apart_set table.views id view w at (λ k. subst (Holds k) numbers) rule.apart;
    total = all_same table.views id view w at added ∙ rule.total;
    spent = spent_set table.views id w (λ l. added ∙ rule.spent id view at (sym live ∙ l)) rule.spent;
  }

  remembers : (log : List Entry) (view : View Entry Origin) (p : Past Entry) → Fit log view → Stands author log view.numbers p → Remembers author view p
  remembers log view p f st = record {
    begins = λ le. prefix_shorter p.seen view.seen log st.seen f.seen le;
    known = λ k h. sym (f.known k (st.fewer k h)) ∙ st.known k h;
  }

  -- The count is loaded.
  told_more : (log : List Entry) (view : View Entry Origin) (n : ℕ) → n ≡ length log → Fit log view → Fit log (informed view n)
  told_more log view n is f = record {
    seen = f.seen;
    left = f.left;
    right = f.right;
    told = let t = f.told in omega arith;
    named = f.named;
    below = f.below;
    known = f.known;
    mine = f.mine;
    own = f.own;
    from = f.from;
  }

  pub loads : (slots id : ℕ) (me : Place) → me.0.live ≡ true → Allows Rule slots id me 1 (λ n. n) (loads_count {Value = Value} author (step slots 1 0 0 none) me)
  loads slots id me live table rule _ at _ =
      let n : ℕ = get_or table.words 1 0 in
      let f : Fit rule.log me.0 = rule.each id me.0 at live in (
        informed me.0 n,
        keeps,
        tt,
        subst (λ (words : List ℕ). Rule record { words = words; homes = table.homes; views = set table.views id (informed me.0 n) }) (sym (set-get_or table.words 1 0))
            (unmoved table rule id me.0 (informed me.0 n) at refl refl refl refl refl (λ _. told_more rule.log me.0 n rule.count f)),
        (refl, remembers rule.log me.0 me.0.left f f.left, remembers rule.log me.0 me.0.right f f.right),
      )
