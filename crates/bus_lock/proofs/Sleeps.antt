-- Counting the threads that sleep keeps the rule, which says nothing of that word.
use Rattle.std.proofs.Common.{◌≡◌, ℕ, true, List, get_or, set, Option, refl, ◌∙◌, arith, length-set, get_or-set_other}
use mathlib.Core.Option.{none}
use Rattle.atomic_table.specs.Table.{Me, step, keeps, Allows}
use Rattle.bus_lock.specs.declared.view.View.{View}
use Rattle.bus_lock.specs.Rule.{Fits, Kept}
use Rattle.bus_lock.specs.Steps.{stays}
use Rattle.bus_lock.proofs.Views.{each_set, apart_set, all_same, spent_set}
use Rattle.bus_lock.proofs.Turns.{turn_stays}

module _ {Value Entry Origin : Type 0} (list_of : Value → List Entry) (origin_of : Value → Origin) (author : Entry → Option ℕ) (seats : ℕ) (made_from : Origin) where
  -- Whatever word 2 becomes.
  pub sleeps : (slots id : ℕ) (me : Me (Option Value) (View Entry Origin)) (f : ℕ → ℕ) (by : ℕ) → Allows (Kept list_of origin_of author seats made_from) slots id me 2 f (stays {Value = Value} (step slots 2 by 0 none) me)
  sleeps slots id me f by table rule _ at _ =
      let view : View Entry Origin = me.0 in
      let n : ℕ = f (get_or table.words 2 0) in (
        view,
        keeps,
        tt,
        record {
          log = rule.log;
          words = length-set table.words 2 n ∙ rule.words;
          slots = rule.slots;
          count = get_or-set_other table.words 2 1 n 0 (λ h. omega arith) ∙ rule.count;
          turn = turn_stays list_of origin_of author seats made_from rule.log table id view view (set table.words 2 n) at refl refl refl (get_or-set_other table.words 2 0 n 0 (λ h. omega arith)) rule.turn;
          each = each_set (λ _ u. u.live ≡ true → Fits list_of origin_of author seats made_from rule.log u) table.views id view (rule.each id view at) (λ i u _ a. rule.each i u a);
          apart = apart_set table.views id view view at (λ k h. h) rule.apart;
          total = all_same table.views id view view at refl ∙ rule.total;
          spent = spent_set table.views id view (rule.spent id view at) rule.spent;
        },
        refl,
      )
