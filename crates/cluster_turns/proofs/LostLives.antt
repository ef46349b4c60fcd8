-- What the log says of the life of a cluster from a place on: where it ends, and by what.
use Rattle.std.proofs.Common.{◌≡◌, ℕ, zero, suc, ◌+◌, ◌-◌, ◌≤◌, ◌<◌, refl, sym, ◌∙◌, ap, arith, List, [], ◌∷◌, length, drop, Bool, false, true, cond, not, ◌||◌, Some, None, slice_get, true≢false, add-one, inl, inr}
use Rattle.std.specs.Prelude.{nat_lt, option_and_then}
use Rattle.std.specs.List.{list_any, position_or_len}
use Rattle.std.specs.Option.{option_map_or}
use Rattle.std.proofs.lemmas.Bool.{lt-ltb, or_parts}
use Rattle.std.proofs.lemmas.Bool.Decides.{nat_tests}
use Rattle.std.proofs.lemmas.List.{drop_all, length-drop}
use Rattle.std.proofs.lemmas.Option.{slice_get_cases}
use Rattle.t32_base.specs.declared.process.ClusterNo.{ClusterNo}
use Rattle.bus_msg.specs.declared.entry.What.{What}
use Rattle.bus_msg.specs.declared.entry.What.TheVariants.{Crash, Done}
use Rattle.bus_msg.specs.declared.entry.Entry.{Entry}
use Rattle.bus_msg.specs.PlacedAfter.{what}
use Rattle.cert_sched.specs.Losses.{is_crash_of, was_lost_in}
use Rattle.cert_sched.specs.Scripted.{is_done, is_finished}
use Rattle.bus_order.proofs.OverLaws.{last_is}
use Rattle.cluster_turns.specs.Lives.{end_of_life, cause_in, end_cause, ends_at_done, is_lost_at}
use Rattle.cluster_turns.proofs.Prefixes.{drop_next}
use Rattle.cluster_turns.proofs.Upto.{first_none}

-- ---- lists

-- where one passes there is a first
pub first_within : {X : Type 0} (test : X → Bool) (xs : List X) → list_any test xs ≡ true → position_or_len test xs < length xs
first_within test [] some = absurd (true≢false (sym some))
first_within test (x ∷ xs) some = by_first (test x) some (first_within test xs)
  where
    by_first : (b : Bool) → (b || list_any test xs) ≡ true → (list_any test xs ≡ true → position_or_len test xs < length xs) → cond (not b) (1 + position_or_len test xs) 0 < length (x ∷ xs)
    by_first true some more = omega arith
    by_first false some more = let later = more some in omega (arith, later)

-- ---- where a life ends

abbrev its_loss : ClusterNo → Entry → Bool
its_loss k e = is_crash_of k (what e)

-- a life that no crash ends ends with the log
pub ends_with_log : (log : List Entry) (k : ClusterNo) (from : ℕ) → was_lost_in (drop from log) k ≡ false → end_of_life log k from ≡ length log - 1
ends_with_log log k from unlost =
    let none : nat_lt (position_or_len (its_loss k) (drop from log)) (length (drop from log)) ≡ false = ap (λ n. nat_lt n (length (drop from log))) (first_none (its_loss k) (drop from log) unlost) ∙ not_less (length (drop from log)) in
    ap (λ t. option_map_or (λ i. from + i) (cond t (Some (position_or_len (its_loss k) (drop from log))) None) (length log - 1)) none
  where
    not_less : (m : ℕ) → nat_lt m m ≡ false
    not_less m = grind (arith, nat_tests)

-- one that a loss ends ends there
pub life_ends : (log : List Entry) (k : ClusterNo) (from : ℕ) → was_lost_in (drop from log) k ≡ true → end_of_life log k from ≡ from + position_or_len (its_loss k) (drop from log)
life_ends log k from lost =
    let within : nat_lt (position_or_len (its_loss k) (drop from log)) (length (drop from log)) ≡ true =
    lt-ltb (position_or_len (its_loss k) (drop from log)) (length (drop from log)) (first_within (its_loss k) (drop from log) lost) in
    ap (λ t. option_map_or (λ i. from + i) (cond t (Some (position_or_len (its_loss k) (drop from log))) None) (length log - 1)) within

-- before the log does, and not before the place from which it is asked
pub lost_inside : (log : List Entry) (k : ClusterNo) (from : ℕ) → was_lost_in (drop from log) k ≡ true → (from ≤ end_of_life log k from) × (end_of_life log k from < length log)
lost_inside log k from lost =
    let ends = life_ends log k from lost in
    let first = first_within (its_loss k) (drop from log) lost in
    (omega (arith, ends), omega (arith, ends, first, length-drop from log))

-- where one passes the first of them is there
first_there : {X : Type 0} (t : X → Bool) (xs : List X) → list_any t xs ≡ true → (x : X) × (slice_get xs (position_or_len t xs) ≡ Some x) × (t x ≡ true)
first_there t [] some = absurd (true≢false (sym some))
first_there t (x ∷ xs) some = by_test (t x) refl some (first_there t xs)
  where
    by_test : (b : Bool) → t x ≡ b → (b || list_any t xs) ≡ true → (list_any t xs ≡ true → (y : _) × (slice_get xs (position_or_len t xs) ≡ Some y) × (t y ≡ true))
        → (y : _) × (slice_get (x ∷ xs) (cond (not b) (1 + position_or_len t xs) 0) ≡ Some y) × (t y ≡ true)
    by_test true is some more = (x, refl, is)
    by_test false is some more = let later = more some in (later.0, ap (slice_get (x ∷ xs)) (let n : 1 + position_or_len t xs ≡ suc (position_or_len t xs) = omega arith in n) ∙ later.1, later.2)

get_drop : {X : Type 0} (xs : List X) (n i : ℕ) → slice_get (drop n xs) i ≡ slice_get xs (n + i)
get_drop xs zero i = ap (slice_get xs) (let e : i ≡ 0 + i = omega arith in e)
get_drop [] (suc n) i = refl
get_drop (x ∷ xs) (suc n) i = get_drop xs n i ∙ ap (slice_get (x ∷ xs)) (let e : suc (n + i) ≡ suc n + i = omega arith in e)

-- the loss that ends a life
pub loss_there : (log : List Entry) (k : ClusterNo) (from : ℕ) → was_lost_in (drop from log) k ≡ true
    → (e : Entry) × (slice_get log (end_of_life log k from) ≡ Some e) × (slice_get (drop from log) (position_or_len (its_loss k) (drop from log)) ≡ Some e) × (is_crash_of k (what e) ≡ true)
loss_there log k from lost =
    let first = first_there (its_loss k) (drop from log) lost in
    (first.0, ap (slice_get log) (life_ends log k from lost) ∙ sym (get_drop log from (position_or_len (its_loss k) (drop from log))) ∙ first.1, first.1, first.2)

-- ---- one entry after the other

pub lost_here : (log : List Entry) (k : ClusterNo) (n : ℕ) → is_lost_at log k n ≡ true → was_lost_in (drop n log) k ≡ true
lost_here log k n here = elim (slice_get_cases log n).1 [
  | inl there ↦
      let loses : is_crash_of k (what there.0) ≡ true = ap (λ o. option_map_or (λ (e : Entry). is_crash_of k (what e)) o false) (sym there.2) ∙ here in
      ap (λ l. was_lost_in l k) (drop_next log n there.0 there.2) ∙ ap (λ t. t || was_lost_in (drop (suc n) log) k) loses
  | inr past ↦ absurd (true≢false (sym here ∙ ap (λ o. option_map_or (λ (e : Entry). is_crash_of k (what e)) o false) past.1))
]

pub lost_behind : (log : List Entry) (k : ClusterNo) (n : ℕ) → n < length log → is_lost_at log k n ≡ false → was_lost_in (drop (n + 1) log) k ≡ was_lost_in (drop n log) k
lost_behind log k n within here = elim (slice_get_cases log n).1 [
  | inl there ↦
      let lives : is_crash_of k (what there.0) ≡ false = ap (λ o. option_map_or (λ (e : Entry). is_crash_of k (what e)) o false) (sym there.2) ∙ here in
      ap (λ m. was_lost_in (drop m log) k) (add-one n) ∙ sym (ap (λ l. was_lost_in l k) (drop_next log n there.0 there.2) ∙ ap (λ t. t || was_lost_in (drop (suc n) log) k) lives)
  | inr past ↦ absurd (omega (arith, within, past.0))
]

pub none_behind : (log : List Entry) (k : ClusterNo) (n : ℕ) → length log ≤ n → was_lost_in (drop n log) k ≡ false
none_behind log k n past = ap (λ l. was_lost_in l k) (drop_all n log past)

-- a crash is not the end of the run
crash_undone : (k : ClusterNo) (w : What) → is_crash_of k w ≡ true → is_done w ≡ false
crash_undone k (Done rests) h = absurd (true≢false (sym h))
crash_undone k _ h = refl

-- a life that ends with the run is one in which the cluster was not lost
pub done_unlost : (log : List Entry) (k : ClusterNo) (from : ℕ) → ends_at_done log k from ≡ true → was_lost_in (drop from log) k ≡ false
done_unlost log k from done = by_test (was_lost_in (drop from log) k) refl
  where
    by_test : (b : Bool) → was_lost_in (drop from log) k ≡ b → b ≡ false
    by_test true lost =
        let loss = loss_there log k from lost in
        absurd (true≢false (sym done ∙ ap (λ o. option_map_or (λ (e : Entry). is_done (what e)) o false) loss.1 ∙ crash_undone k (what loss.0) loss.3))
    by_test false unlost = refl

-- ---- by what it ends

no_cause : (k : ClusterNo) (w : What) → is_crash_of k w ≡ false → cause_in k w ≡ None
no_cause k (Crash j cause) h = ap (λ b. cond b (Some cause) None) h
no_cause k _ h = refl

-- none of these entries loses it
none_at : (k : ClusterNo) (log : List Entry) (n : ℕ) → was_lost_in log k ≡ false → option_and_then (λ (e : Entry). cause_in k (what e)) (slice_get log n) ≡ None
none_at k [] n unlost = refl
none_at k (e ∷ log) zero unlost = no_cause k (what e) (or_parts (is_crash_of k (what e)) (was_lost_in log k) unlost).0
none_at k (e ∷ log) (suc n) unlost = none_at k log n (or_parts (is_crash_of k (what e)) (was_lost_in log k) unlost).1

-- the run ended the life of a cluster that was not lost
pub ended_with_log : (log : List Entry) (k : ClusterNo) (from : ℕ) → from ≤ length log - 1 → was_lost_in (drop from log) k ≡ false → end_cause log k from ≡ None
ended_with_log log k from within unlost =
    ap (λ n. option_and_then (λ (e : Entry). cause_in k (what e)) (slice_get log n)) (ends_with_log log k from unlost ∙ (let n : length log - 1 ≡ from + (length log - 1 - from) = omega (arith, within) in n))
    ∙ ap (option_and_then (λ (e : Entry). cause_in k (what e))) (sym (get_drop log from (length log - 1 - from))) ∙ none_at k (drop from log) (length log - 1 - from) unlost

-- where it ended by the end that stands last
pub done_finished : (log : List Entry) (k : ClusterNo) (from : ℕ) → ends_at_done log k from ≡ true → is_finished log ≡ true
done_finished log k from done =
    ap (λ o. option_map_or (λ (e : Entry). is_done (what e)) o false) (last_is log)
    ∙ ap (λ n. option_map_or (λ (e : Entry). is_done (what e)) (slice_get log n) false) (sym (ends_with_log log k from (done_unlost log k from done))) ∙ done

-- one that was lost ended by its loss
pub lost_cause : (log : List Entry) (k : ClusterNo) (from : ℕ) → (lost : was_lost_in (drop from log) k ≡ true) → end_cause log k from ≡ cause_in k (what (loss_there log k from lost).0)
lost_cause log k from lost = ap (option_and_then (λ (e : Entry). cause_in k (what e))) (loss_there log k from lost).1
