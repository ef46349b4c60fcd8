-- Where the lives of a cluster begin in a log.
use Rattle.std.proofs.Common.{◌≡◌, ℕ, zero, suc, ◌+◌, ◌-◌, ◌≤◌, ◌<◌, refl, sym, ◌∙◌, ap, subst, arith, ◌⊎◌, List, ◌++◌, length, take, drop, Bool, true, false, cond, not, ◌||◌, Option, Some, None, slice_get, is_some, true≢false, add-one, inl, inr}
use Rattle.std.specs.Prelude.{option_and_then}
use Rattle.std.specs.List.{position_or_len}
use Rattle.std.specs.Option.{option_map_or}
use Rattle.std.proofs.lemmas.Bool.{cases_lt}
use Rattle.std.proofs.lemmas.Option.{slice_get_cases}
use Rattle.t32_base.specs.declared.process.ClusterNo.{ClusterNo}
use Rattle.sys_text.specs.declared.system.System.{System}
use Rattle.bus_msg.specs.declared.entry.Entry.{Entry}
use Rattle.bus_msg.specs.PlacedAfter.{what}
use Rattle.cert_sched.specs.Legal.{IsLegalBy, Stands, MayStand}
use Rattle.cert_sched.specs.Losses.{is_crash_of, was_lost_in}
use Rattle.bus_order.specs.Script.{off_at, place_of_loss, turns}
use Rattle.bus_order.proofs.OffLaws.{off_taken}
use Rattle.script_laws.specs.Off.{comes_back}
use Rattle.script_laws.proofs.Alternating.{back_follows, off_behind, stood_at}
use Rattle.script_laws.proofs.OffLosses.{all_stand}
use Rattle.script_laws.proofs.OffSince.{turns_parts}
use Rattle.cluster_turns.specs.Along.{StaysAlive}
use Rattle.cluster_turns.specs.Lives.{begin_of_life, begins_at, cause_in, end_cause, end_of_life}
use Rattle.cluster_turns.proofs.LostLives.{ends_with_log, life_ends}
use Rattle.cluster_turns.proofs.Prefixes.{drop_next, get_front}
use Rattle.cluster_turns.proofs.Staying.{next_same, stays_lost, stays_then, stays_there}
use Rattle.cluster_turns.proofs.Upto.{on_next}

abbrev its_loss : ClusterNo → Entry → Bool
its_loss k e = is_crash_of k (what e)

-- ---- in any log

module _ (log : List Entry) (k : ClusterNo) where
  pub begin_low : (n : ℕ) → begin_of_life log k n ≤ n
  begin_low zero = omega arith
  begin_low (suc n) = by_test (begins_at log k (suc n)) (begin_low n)
    where
      by_test : (b : Bool) → begin_of_life log k n ≤ n → cond b (suc n) (begin_of_life log k n) ≤ suc n
      by_test true low = omega arith
      by_test false low = omega (arith, low)

  pub begin_begins : (n : ℕ) → begins_at log k (begin_of_life log k n) ≡ true
  begin_begins zero = refl
  begin_begins (suc n) = by_test (begins_at log k (suc n)) refl (begin_begins n)
    where
      by_test : (b : Bool) → begins_at log k (suc n) ≡ b → begins_at log k (begin_of_life log k n) ≡ true → begins_at log k (cond b (suc n) (begin_of_life log k n)) ≡ true
      by_test true is more = is
      by_test false is more = more

  pub begin_here : (n : ℕ) → begins_at log k n ≡ true → begin_of_life log k n ≡ n
  begin_here zero begins = refl
  begin_here (suc n) begins = ap (λ b. cond b (suc n) (begin_of_life log k n)) begins

  -- where none begins it is the one of the place before
  pub begin_back : (n : ℕ) → 0 < n → begins_at log k n ≡ false → begin_of_life log k n ≡ begin_of_life log k (n - 1)
  begin_back zero some none = absurd (omega (arith, some))
  begin_back (suc n) some none = ap (λ b. cond b (suc n) (begin_of_life log k n)) none ∙ ap (begin_of_life log k) (let e : n ≡ suc n - 1 = omega arith in e)

  -- no other life begins between where it begins and where the cluster is
  pub begin_last : (n from : ℕ) → begin_of_life log k n < from → from ≤ n → begins_at log k from ≡ false
  begin_last zero from low high = absurd (omega (arith, low, high))
  begin_last (suc n) from low high = by_test (begins_at log k (suc n)) refl low (begin_last n from)
    where
      by_test : (b : Bool) → begins_at log k (suc n) ≡ b → cond b (suc n) (begin_of_life log k n) < from → (begin_of_life log k n < from → from ≤ n → begins_at log k from ≡ false) → begins_at log k from ≡ false
      by_test true is low more = absurd (omega (arith, low, high))
      by_test false is low more = by_place (from_or high)
        where
          from_or : from ≤ suc n → (from ≡ suc n) ⊎ (from ≤ n)
          from_or high = elim (cases_lt n from) [ inl more ↦ inl (omega (arith, more, high)) | inr less ↦ inr less ]

          by_place : (from ≡ suc n) ⊎ (from ≤ n) → begins_at log k from ≡ false
          by_place (inl same) = ap (begins_at log k) same ∙ is
          by_place (inr less) = more low less

  -- the next entry does not lose it
  stays_one : (n : ℕ) (e : Entry) → slice_get log n ≡ Some e → is_crash_of k (what e) ≡ false → StaysAlive k log n (suc n)
  stays_one n e at other =
      let first : position_or_len (its_loss k) (drop n log) ≡ 1 + position_or_len (its_loss k) (drop (suc n) log) =
      ap (position_or_len (its_loss k)) (drop_next log n e at) ∙ ap (λ b. cond (not b) (1 + position_or_len (its_loss k) (drop (suc n) log)) 0) other in
      record { order = omega arith; before = omega (arith, first) }

  -- one that is not off was not lost since its life began
  pub begin_stays : (n : ℕ) → n ≤ length log → off_at (take n log) k ≡ None → StaysAlive k log (begin_of_life log k n) n
  begin_stays zero within on = stays_there k log 0 0 refl
  begin_stays (suc n) within on = by_test (begins_at log k (suc n)) refl (begin_stays n)
    where
      none_some : (m : ℕ) → ◌≡◌ {A = Option ℕ} None (Some m) → ⊥
      none_some m h = cc

      by_entry : (e : Entry) → slice_get log n ≡ Some e → begins_at log k (suc n) ≡ false → (n ≤ length log → off_at (take n log) k ≡ None → StaysAlive k log (begin_of_life log k n) n) → StaysAlive k log (begin_of_life log k n) (suc n)
      by_entry e at none before_it = by_loss (is_crash_of k (what e)) refl
        where
          other : comes_back k (what e) ≡ false
          other = ap (λ o. option_map_or (λ (e : Entry). comes_back k (what e)) o false) (sym at) ∙ none

          by_loss : (t : Bool) → is_crash_of k (what e) ≡ t → StaysAlive k log (begin_of_life log k n) (suc n)
          by_loss true loses = absurd (none_some e.place (sym on ∙ ap (λ m. off_at (take m log) k) (sym (add-one n)) ∙ off_behind log k n e at loses))
          by_loss false lives =
              let still : turns k (what e) ≡ false = turns_parts k (what e) ∙ (λ i. lives i || other i) in
              let before : off_at (take n log) k ≡ None = sym (off_taken log n e k at ∙ ap (λ b. cond b (place_of_loss k (Some e)) (off_at (take n log) k)) still) ∙ ap (λ m. off_at (take m log) k) (add-one n) ∙ on in
              stays_then k log (begin_of_life log k n) n (suc n) (before_it (omega (arith, within)) before) (stays_one n e at lives)

      by_test : (b : Bool) → begins_at log k (suc n) ≡ b → (n ≤ length log → off_at (take n log) k ≡ None → StaysAlive k log (begin_of_life log k n) n) → StaysAlive k log (cond b (suc n) (begin_of_life log k n)) (suc n)
      by_test true is before_it = stays_there k log (suc n) (suc n) refl
      by_test false is before_it = elim (slice_get_cases log n).1 [
        | inl there ↦ by_entry there.0 there.2 is before_it
        | inr past ↦ absurd (omega (arith, past.0, within))
      ]

  -- so that life ends where one would end that began here
  pub same_end : (n : ℕ) → n ≤ length log → off_at (take n log) k ≡ None → end_of_life log k (begin_of_life log k n) ≡ end_of_life log k n
  same_end n within on = by_loss (was_lost_in (drop n log) k) refl
    where
      from : ℕ
      from = begin_of_life log k n

      stays : StaysAlive k log from n
      stays = begin_stays n within on

      by_loss : (t : Bool) → was_lost_in (drop n log) k ≡ t → end_of_life log k from ≡ end_of_life log k n
      by_loss true lost = life_ends log k from (stays_lost k log from n stays ∙ lost) ∙ next_same k log from n stays ∙ sym (life_ends log k n lost)
      by_loss false lives = ends_with_log log k from (stays_lost k log from n stays ∙ lives) ∙ sym (ends_with_log log k n lives)

  pub same_cause : (n : ℕ) → n ≤ length log → off_at (take n log) k ≡ None → end_cause log k (begin_of_life log k n) ≡ end_cause log k n
  same_cause n within on = ap (λ m. option_and_then (λ (e : Entry). cause_in k (what e)) (slice_get log m)) (same_end n within on)

-- ---- in a longer log

pub begins_longer : (log more : List Entry) (k : ClusterNo) (n : ℕ) → n ≤ length log → begins_at (log ++ more) k n ≡ begins_at log k n
begins_longer log more k zero within = refl
begins_longer log more k (suc n) within = ap (λ o. option_map_or (λ (e : Entry). comes_back k (what e)) o false) (get_front log more n (omega (arith, within)))

pub begin_longer : (log more : List Entry) (k : ClusterNo) (n : ℕ) → n ≤ length log → begin_of_life (log ++ more) k n ≡ begin_of_life log k n
begin_longer log more k zero within = refl
begin_longer log more k (suc n) within = λ i. cond (begins_longer log more k (suc n) within i) (suc n) (begin_longer log more k n (omega (arith, within)) i)

-- ---- in a legal log

module _ (system : System) (log : List Entry) (k : ClusterNo) (legal : IsLegalBy MayStand system log) where
  -- one that is not off is not brought back next
  pub no_return : (n : ℕ) → off_at (take n log) k ≡ None → begins_at log k (suc n) ≡ false
  no_return n on = elim (slice_get_cases log n).1 [
    | inl there ↦ by_entry there.0 there.2
    | inr past ↦ ap (λ o. option_map_or (λ (e : Entry). comes_back k (what e)) o false) past.1
  ]
    where
      by_entry : (e : Entry) → slice_get log n ≡ Some e → begins_at log k (suc n) ≡ false
      by_entry e at = ap (λ o. option_map_or (λ (e : Entry). comes_back k (what e)) o false) at ∙ by_test (comes_back k (what e)) refl
        where
          by_test : (b : Bool) → comes_back k (what e) ≡ b → comes_back k (what e) ≡ false
          by_test true back =
              let stood = stood_at Stands system log n e (all_stand system log legal) at in
              let off = (back_follows system (take n log) e k stood.0 stood.1 back).1 in
              absurd (true≢false (sym off ∙ ap is_some on))
          by_test false is = is

  record IsOnFrom (n m : ℕ) : Type 0 where
    on : off_at (take m log) k ≡ None
    begin : begin_of_life log k m ≡ begin_of_life log k n

  -- as long as it is not lost it is not off, and in the same life
  goes_on : (n d : ℕ) → off_at (take n log) k ≡ None → n + d ≤ length log → n + d ≤ n + position_or_len (its_loss k) (drop n log) → IsOnFrom n (n + d)
  goes_on n zero on within before = subst (IsOnFrom n) (let e : n ≡ n + 0 = omega arith in e) (record { on = on; begin = refl })
  goes_on n (suc d) on within before =
      let so_far = goes_on n d on (omega (arith, within)) (omega (arith, before)) in
      let next : suc (n + d) ≡ n + suc d = omega arith in
      subst (IsOnFrom n) next (elim (slice_get_cases log (n + d)).1 [
        | inl there ↦ one so_far there.0 there.2
        | inr past ↦ absurd (omega (arith, past.0, within))
      ])
    where
      one : IsOnFrom n (n + d) → (e : Entry) → slice_get log (n + d) ≡ Some e → IsOnFrom n (suc (n + d))
      one so_far e at = record {
        on = ap (λ m. off_at (take m log) k) (sym (add-one (n + d))) ∙ on_next log (n + d) e k at (by_test (is_crash_of k (what e)) refl) so_far.on;
        begin = ap (λ b. cond b (suc (n + d)) (begin_of_life log k (n + d))) (no_return (n + d) so_far.on) ∙ so_far.begin;
      }
        where
          by_test : (b : Bool) → is_crash_of k (what e) ≡ b → b ≡ false
          by_test true loses =
              let here : position_or_len (its_loss k) (drop (n + d) log) ≡ 0 = ap (position_or_len (its_loss k)) (drop_next log (n + d) e at) ∙ ap (λ b. cond (not b) (1 + position_or_len (its_loss k) (drop (suc (n + d)) log)) 0) loses in
              let same = next_same k log n (n + d) (record { order = omega arith; before = omega (arith, before) }) in
              absurd (omega (arith, before, here, same))
          by_test false is = refl

  on_from : (n m : ℕ) → StaysAlive k log n m → m ≤ length log → off_at (take n log) k ≡ None → IsOnFrom n m
  on_from n m stays within on =
      let order = stays.order in
      let before = stays.before in
      let far : n + (m - n) ≡ m = omega (arith, order) in
      subst (IsOnFrom n) far (goes_on n (m - n) on (omega (arith, far, within)) (omega (arith, far, before)))

  pub on_after : (n m : ℕ) → StaysAlive k log n m → m ≤ length log → off_at (take n log) k ≡ None → off_at (take m log) k ≡ None
  on_after n m stays within on = (on_from n m stays within on).on

  pub begin_after : (n m : ℕ) → StaysAlive k log n m → m ≤ length log → off_at (take n log) k ≡ None → begin_of_life log k m ≡ begin_of_life log k n
  begin_after n m stays within on = (on_from n m stays within on).begin
