-- Giving a number to a new seat keeps the rule.
use Rattle.std.proofs.Common.{◌≡◌, ℕ, suc, ◌<◌, inl, inr, ⊎_elim, true, false, List, [], drop, set, Option, refl, ap, sym, subst, ◌∙◌, arith, zero-le}
use Rattle.atomic_table.specs.Table.{State, Splits}
use Rattle.bus_lock.specs.declared.view.View.{View}
use Rattle.bus_lock.specs.Lists.{Holds, numbers_from, entries_by}
use Rattle.bus_lock.specs.Views.{next_of, first_of}
use Rattle.bus_lock.specs.Rule.{Fits, Kept}
use Rattle.bus_lock.proofs.Lists.{numbers_within}
use Rattle.bus_lock.proofs.Views.{each_set, apart_set, all_same, all_end, spent_set, each_end, apart_end, nothing_past}
use Rattle.bus_lock.proofs.Turns.{turn_stays, turn_end}

module _ {Value Entry Origin : Type 0} (list_of : Value → List Entry) (origin_of : Value → Origin) (author : Entry → Option ℕ) (seats : ℕ) (made_from : Origin) where
  abbrev Rule : State (Option Value) (View Entry Origin) → Type 0
  Rule = Kept list_of origin_of author seats made_from

  abbrev Fit : List Entry → View Entry Origin → Type 0
  Fit = Fits list_of origin_of author seats made_from

  pub splits : (id : ℕ) (view : View Entry Origin) (n : ℕ) → view.live ≡ true → view.inside ≡ false → view.numbers ≡ numbers_from view.name (suc (suc n)) → view.seen ≡ [] → view.own ≡ [] → Splits Rule id view (next_of view) (first_of view)
  splits id view n live out numbers unseen none_own table rule at =
      let left : View Entry Origin = next_of view in
      let right : View Entry Origin = first_of view in
      let fit : Fit rule.log view = rule.each id view at live in
      let left_numbers : left.numbers ≡ numbers_from (suc view.name) (suc n) = ap (drop 1) numbers in
      let fewer : (k : ℕ) → Holds k left.numbers → Holds k view.numbers = λ k h. subst (Holds k) (sym numbers) (inr (subst (Holds k) left_numbers h)) in
      let above : (k : ℕ) → Holds k left.numbers → view.name < k = λ k h. let c = numbers_within k (suc view.name) (suc n) (subst (Holds k) left_numbers h) in omega arith in
      let next : Holds (suc view.name) left.numbers = subst (Holds (suc view.name)) (sym left_numbers) (inl refl) in
      let mine : Holds view.name view.numbers = fit.named in
      let views : List (View Entry Origin) = set table.views id left in
      let left_fits : Fit rule.log left = record {
        seen = fit.seen;
        left = nothing_past author rule.log left.numbers;
        right = nothing_past author rule.log left.numbers;
        told = fit.told;
        named = next;
        below = λ k h. fit.below k (fewer k h);
        known = λ k h. fit.known k (fewer k h);
        mine = fit.known (suc view.name) (fewer (suc view.name) next) ∙ (ap (entries_by author (suc view.name)) unseen ∙ ap (entries_by author (suc view.name)) (sym none_own));
        own = fit.own;
        from = fit.from;
      } in
      let right_fits : Fit rule.log right = record {
        seen = fit.seen;
        left = nothing_past author rule.log right.numbers;
        right = nothing_past author rule.log right.numbers;
        told = zero-le;
        named = inl refl;
        below = λ k h. ⊎_elim (λ (e : k ≡ view.name). fit.below k (subst (λ (x : ℕ). Holds x view.numbers) (sym e) mine)) (λ (x : ⊥). absurd x) h;
        known = λ k h. ⊎_elim (λ (e : k ≡ view.name). fit.known k (subst (λ (x : ℕ). Holds x view.numbers) (sym e) mine)) (λ (x : ⊥). absurd x) h;
        mine = fit.known view.name mine ∙ ap (entries_by author view.name) unseen;
        own = tt;
        from = fit.from;
      } in
      record {
        log = rule.log;
        words = rule.words;
        slots = rule.slots;
        count = rule.count;
        turn = turn_end list_of origin_of author seats made_from rule.log table.words table.homes views right out (turn_stays list_of origin_of author seats made_from rule.log table id view left table.words at refl refl refl refl rule.turn);
        each = each_end (λ u. u.live ≡ true → Fit rule.log u) views right (λ _. right_fits) (each_set (λ _ u. u.live ≡ true → Fit rule.log u) table.views id left (λ _. left_fits) (λ i u _ a. rule.each i u a));
        apart = apart_end views right
            (each_set (λ _ u. (k : ℕ) → Holds k u.numbers → ¬ Holds k right.numbers) table.views id left
            (λ k h x. ⊎_elim (λ (e : k ≡ view.name). let l = above k h in absurd (omega arith)) (λ (y : ⊥). absurd y) x)
            (λ i u ne a k h x. ⊎_elim (λ (e : k ≡ view.name). rule.apart i id u view a at ne k h (subst (λ (y : ℕ). Holds y view.numbers) (sym e) mine)) (λ (y : ⊥). absurd y) x))
            (apart_set table.views id view left at fewer rule.apart);
        total = let e = all_end views right in let same = all_same table.views id view left at refl in let now = rule.total in omega arith;
        spent = each_end (λ u. u.live ≡ false → u.added ≡ 0) views right (λ l. refl) (spent_set table.views id left (λ l. absurd (cc (live, l))) rule.spent);
      }
