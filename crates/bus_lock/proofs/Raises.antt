-- Raising the count keeps the rule.
use Rattle.std.proofs.Common.{length-append, ◌≡◌, ◌≢◌, ℕ, ◌≤◌, inr, true, List, [], ◌∷◌, ◌++◌, length, drop, All, Option, Some, None, refl, ap, sym, subst, ◌∙◌, arith, append-nil, length-set, get_or-set_other, get_or-set_same}
use mathlib.Core.Option.{none}
use mathlib.Core.List.{IsPrefix}
use Rattle.atomic_table.specs.Table.{State, Me, step, keeps, Allows, rest}
use Rattle.atomic_table.proofs.Lists.{set_here}
use Rattle.bus_lock.specs.declared.view.Past.{Past}
use Rattle.bus_lock.specs.declared.view.View.{View}
use Rattle.bus_lock.specs.Lists.{Holds, entries_by, MayAdd, IsWithin}
use Rattle.bus_lock.specs.Views.{grown}
use Rattle.bus_lock.specs.Rule.{Stands, Fits, Kept}
use Rattle.bus_lock.specs.Steps.{raises_count}
use Rattle.bus_lock.proofs.Lists.{prefix_self, prefix_trans, prefix_length, prefix_split, within_more, by_other, by_append}
use Rattle.bus_lock.proofs.Views.{each_set, at_length, apart_set, all_set, spent_set, nothing_past}
use Rattle.bus_lock.proofs.Turns.{turn_of}

module _ {Value Entry Origin : Type 0} (list_of : Value → List Entry) (origin_of : Value → Origin) (author : Entry → Option ℕ) (seats : ℕ) (made_from : Origin) where
  abbrev Place : Type 0
  Place = Me (Option Value) (View Entry Origin)

  abbrev Rule : State (Option Value) (View Entry Origin) → Type 0
  Rule = Kept list_of origin_of author seats made_from

  abbrev Fit : List Entry → View Entry Origin → Type 0
  Fit = Fits list_of origin_of author seats made_from

  -- The list grows by what its author may add.
  grows : (view : View Entry Origin) (log log' : List Entry) → view.seen ≡ log → IsPrefix view.seen log' → Fit log view → Fit log' (grown view log')
  grows view log log' whole pre f =
      let new : List Entry = drop (length view.seen) log' in
      let split : view.seen ++ new ≡ log' = prefix_split view.seen log' pre in
      let from_log : IsPrefix log log' = subst (λ (l : List Entry). IsPrefix l log') whole pre in
      let long : length log ≤ length log' = prefix_length log log' from_log in
      record {
        seen = prefix_self log';
        left = nothing_past author log' view.numbers;
        right = nothing_past author log' view.numbers;
        told = let t = f.told in omega arith;
        named = f.named;
        below = f.below;
        known = λ k h. refl;
        mine = ap (entries_by author view.name) (sym split) ∙ (by_append author view.name view.seen new
            ∙ (ap (λ (l : List Entry). l ++ entries_by author view.name new) (ap (entries_by author view.name) whole ∙ f.mine) ∙ sym (by_append author view.name view.own new)));
        own = subst (λ (l : List Entry). IsWithin (view.own ++ new) l) split (within_more view.own view.seen new f.own);
        from = f.from;
      }

  -- What others know of the longer list.
  stays_fit : (u : View Entry Origin) (log log' new : List Entry) (name : ℕ) → log ++ new ≡ log' → All (MayAdd author name) new → ((k : ℕ) → Holds k u.numbers → k ≢ name) → Fit log u → Fit log' u
  stays_fit u log log' new name split all others f =
      let pre : IsPrefix log log' = (new, split) in
      let long : length log ≤ length log' = prefix_length log log' pre in
      let same : (k : ℕ) → k ≢ name → entries_by author k log' ≡ entries_by author k log =
      λ k ne. ap (entries_by author k) (sym split) ∙ (by_append author k log new ∙ (ap (λ (l : List Entry). entries_by author k log ++ l) (by_other author name k new ne all) ∙ append-nil (entries_by author k log))) in
      let past_stays : (p : Past Entry) → Stands author log u.numbers p → Stands author log' u.numbers p = λ p st. record {
        seen = prefix_trans p.seen log log' st.seen pre;
        fewer = st.fewer;
        known = λ k h. same k (others k (st.fewer k h)) ∙ st.known k h;
      } in
      record {
        seen = prefix_trans u.seen log log' f.seen pre;
        left = past_stays u.left f.left;
        right = past_stays u.right f.right;
        told = let t = f.told in omega arith;
        named = f.named;
        below = f.below;
        known = λ k h. same k (others k h) ∙ f.known k h;
        mine = same u.name (others u.name f.named) ∙ f.mine;
        own = f.own;
        from = f.from;
      }

  abbrev first_held : List (ℕ × Option Value) → Option Value
  first_held [] = None
  first_held (x ∷ xs) = x.1

  pub raises : (slots id : ℕ) (me : Place) (value : Value) (n : ℕ) → me.0.live ≡ true → me.0.inside ≡ true → me.1 ≡ (0, Some value) ∷ [] → IsPrefix me.0.seen (list_of value)
      → All (MayAdd author me.0.name) (drop (length me.0.seen) (list_of value)) → n ≡ length (list_of value)
      → Allows Rule slots id me 1 (λ _. n) (λ _. raises_count list_of (step slots 1 n 0 none) me n)
  raises slots id me value n live inside has pre all is table rule _ at _ =
      let view : View Entry Origin = me.0 in
      let log' : List Entry = list_of value in
      let w : View Entry Origin = grown view log' in
      let t = turn_of list_of origin_of author seats made_from table rule id view at inside in
      let new : List Entry = drop (length view.seen) log' in
      let split : rule.log ++ new ≡ log' = subst (λ (l : List Entry). l ++ new ≡ log') t.2 (prefix_split view.seen log' pre) in
      let fit : Fit rule.log view = rule.each id view at live in
      let wide = rule.words in (
        w,
        keeps,
        tt,
        record {
          log = log';
          words = length-set table.words 1 n ∙ rule.words;
          slots = rule.slots;
          count = get_or-set_same table.words 1 n 0 (omega arith) ∙ is;
          turn = inr record {
            holder = id;
            view = w;
            more = λ h. t.0.more (sym (get_or-set_other table.words 1 0 n 0 (λ e. omega arith)) ∙ h);
            at = set_here table.views id w (at_length table.views id view at);
            inside = inside;
            live = live;
            whole = refl;
            alone = each_set (λ i u. u.inside ≡ true → i ≡ id) table.views id w (λ _. refl) (λ i u _ a h. t.0.alone i u a h ∙ t.1);
          };
          each = each_set (λ _ u. u.live ≡ true → Fit log' u) table.views id w (λ _. grows view rule.log log' t.2 pre fit)
              (λ i u ne a l. stays_fit u rule.log log' new view.name split all (λ k h e. rule.apart i id u view a at ne k h (subst (λ (x : ℕ). Holds x view.numbers) (sym e) fit.named)) (rule.each i u a l));
          apart = apart_set table.views id view w at (λ k h. h) rule.apart;
          total = let sum = all_set table.views id view w at in let now = rule.total in omega (arith, sym (ap length split) ∙ length-append rule.log new);
          spent = spent_set table.views id w (λ l. absurd (cc (live, l))) rule.spent;
        },
        λ value' has'. let held : Some value ≡ Some value' = ap first_held (sym has ∙ has') in let same : value ≡ value' = cc held in ap (λ (x : Value). (grown me.0 (list_of x), me.1)) same,
      )

  -- The two steps of `leave`, by what the seat is then.
  pub raises_at : (slots id : ℕ) (me : Place) (view : View Entry Origin) (value : Value) (n : ℕ) → me ≡ (view, (0, Some value) ∷ []) → view.live ≡ true → view.inside ≡ true → IsPrefix view.seen (list_of value)
      → All (MayAdd author view.name) (drop (length view.seen) (list_of value)) → n ≡ length (list_of value)
      → Allows Rule slots id me 1 (λ _. n) (λ _. raises_count list_of (step slots 1 n 0 none) me n)
  raises_at slots id me view value n e live inside pre all is =
      subst (λ (m : Place). Allows Rule slots id m 1 (λ _. n) (λ _. raises_count list_of (step slots 1 n 0 none) m n)) (sym e)
      (raises slots id (view, (0, Some value) ∷ []) value n live inside refl pre all is)

-- What the seat is after the step.
module _ {Value Entry Origin : Type 0} (old me me' : Me (Option Value) (View Entry Origin)) (value : Value) where
  pub after_exchange : old.1 ≡ (0, None) ∷ [] → me ≡ (old.0, (0, Some value) ∷ rest old.1) → me ≡ (old.0, (0, Some value) ∷ [])
  after_exchange e h = h ∙ ap (λ (c : List (ℕ × Option Value)). (old.0, (0, Some value) ∷ rest c)) e

  pub after_raise : (list_of : Value → List Entry) → me ≡ (old.0, (0, Some value) ∷ []) → ((w : Value) → me.1 ≡ (0, Some w) ∷ [] → me' ≡ (grown me.0 (list_of w), me.1)) → me' ≡ (grown old.0 (list_of value), (0, Some value) ∷ [])
  after_raise list_of e h = h value (ap (λ (m : Me (Option Value) (View Entry Origin)). m.1) e) ∙ ap (λ (m : Me (Option Value) (View Entry Origin)). (grown m.0 (list_of value), m.1)) e
