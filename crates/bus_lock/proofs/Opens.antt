-- A new table keeps the rule.
use Rattle.std.proofs.Common.{◌≡◌, ℕ, zero, suc, ◌<◌, inl, true, false, List, [], ◌∷◌, Option, Some, refl, sym, subst, ◌∙◌, arith}
use mathlib.Core.Option.{some, some-injective, some-ne-none}
use lib.ListN.{get_elem?}
use Rattle.atomic_table.specs.Table.{State, opening}
use Rattle.bus_lock.specs.declared.view.View.{View}
use Rattle.bus_lock.specs.Lists.{numbers_from}
use Rattle.bus_lock.specs.Views.{first_view}
use Rattle.bus_lock.specs.Rule.{Fits, Kept}
use Rattle.bus_lock.proofs.Lists.{prefix_self, numbers_within, in_numbers}
use Rattle.bus_lock.proofs.Views.{nothing_past}

module _ {Value Entry Origin : Type 0} (list_of : Value → List Entry) (origin_of : Value → Origin) (author : Entry → Option ℕ) (seats : ℕ) (made_from : Origin) where
  abbrev Rule : State (Option Value) (View Entry Origin) → Type 0
  Rule = Kept list_of origin_of author seats made_from

  abbrev Fit : List Entry → View Entry Origin → Type 0
  Fit = Fits list_of origin_of author seats made_from

  -- The table at the start.
  pub opens : (value : Value) → list_of value ≡ [] → origin_of value ≡ made_from → 0 < seats
      → Rule record { words = 0 ∷ 0 ∷ 0 ∷ []; homes = some (Some value) ∷ []; views = first_view seats made_from ∷ [] }
  opens value empty is some_seat = record {
    log = [];
    words = refl;
    slots = refl;
    count = refl;
    turn = inl record {
      value = value;
      zero = refl;
      home = refl;
      list = empty;
      origin = is;
      nobody = only_first (λ u. u.inside ≡ false) refl;
    };
    each = only_first (λ u. u.live ≡ true → Fit [] u) (λ _. record {
      seen = prefix_self [];
      left = nothing_past author [] (numbers_from 0 seats);
      right = nothing_past author [] (numbers_from 0 seats);
      told = omega arith;
      named = in_numbers 0 0 seats (omega arith) (omega arith);
      below = λ k h. let c = numbers_within k 0 seats h in omega arith;
      known = λ k h. refl;
      mine = refl;
      own = tt;
      from = refl;
    });
    apart = λ i j view w ei ej ne k. absurd (ne (first_at i view ei ∙ sym (first_at j w ej)));
    total = refl;
    spent = only_first (λ u. u.live ≡ false → u.added ≡ 0) (λ l. refl);
  } where
    only_first : (P : View Entry Origin → Type 0) → P (first_view seats made_from) → (i : ℕ) (u : View Entry Origin) → get_elem? (first_view seats made_from ∷ []) i ≡ some u → P u
    only_first P h zero u e = subst P (some-injective (first_view seats made_from) u e) h
    only_first P h (suc i) u e = absurd (some-ne-none u (sym e))

    first_at : (i : ℕ) (u : View Entry Origin) → get_elem? (first_view seats made_from ∷ []) i ≡ some u → i ≡ 0
    first_at zero u e = refl
    first_at (suc i) u e = absurd (some-ne-none u (sym e))

  -- The table at the start, by what fills its slots.
  pub opens_with : (value : Value) (xs : List (Option Value)) → xs ≡ Some value ∷ [] → list_of value ≡ [] → origin_of value ≡ made_from → 0 < seats → Kept list_of origin_of author seats made_from (opening (0 ∷ 0 ∷ 0 ∷ []) xs (first_view seats made_from))
  opens_with value xs e empty is some_seat = subst (λ (l : List (Option Value)). Kept list_of origin_of author seats made_from (opening (0 ∷ 0 ∷ 0 ∷ []) l (first_view seats made_from))) (sym e)
      (opens value empty is some_seat)
