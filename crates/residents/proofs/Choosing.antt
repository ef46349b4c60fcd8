-- Which process is chosen: among the pids of those that may have a step, the first that has one is the first of all that have one.
use Rattle.std.proofs.Common.{◌≡◌, ℕ, refl, sym, ◌∙◌, ap, subst, List, [], ◌∷◌, arith, Bool, true, false, cond, Ok, not, ◌&&◌, ◌||◌, ltb, eqb-true, eq-eqb, Option, Some, None, is_none, true≢false, inl, inr}
use Rattle.std.specs.Prelude.{filter, find, option_map}
use Rattle.std.specs.List.{list_all, list_any, AllByRecursion}
use Rattle.std.specs.Option.{option_or}
use Rattle.std.proofs.lemmas.Bool.{and_from, and_parts, or_left, or_right}
use Rattle.std.proofs.lemmas.Bool.Decides.{nat_tests}
use Rattle.std.proofs.lemmas.Option.{same_Some}
use Rattle.slab.specs.Slab.{Slab, get}
use Rattle.t32_base.specs.declared.process.Pid.{Pid}
use Rattle.t32_base.specs.declared.process.ClusterNo.{ClusterNo}
use Rattle.bus_msg.specs.Places.{same_pid}
use Rattle.plain_kernel.specs.Maps.{at_key, pid_of}
use Rattle.cert_sched.specs.Parts.{first_of}
use Rattle.residents.specs.Duty.{DutyView, is_able}
use Rattle.residents.specs.declared.quantum.Quantum.{Quantum}
use Rattle.residents.specs.declared.quantum.Quantum.TheVariants.{Moved, Sent, Synced, Renewed, Stuck, Forks}
use Rattle.residents.specs.ChildrenFirst.{has_turn, is_free, is_hindered}
use Rattle.residents.specs.Residents.{ResidentsView, NextAble, are_rising, pids_in, pids_able, next_ready, none_has_turn, ChosenTurn, HasTurn, TurnIs, GivenTurnIs}
use Rattle.residents.specs.Slots.{in_slot, stands_in, IsSlot, IsKept}
use Rattle.residents.specs.Held.{Held, Runs, held_of}
use Rattle.residents.proofs.ChildFirst.{before_is}
use Rattle.residents.proofs.Owed.{acts_able, comes_able, owed_able}
use Rattle.residents.proofs.Free.{any_filtered, filter_rises, filtered_passes, none_passes_next}
use Rattle.residents.proofs.Changing.{pid_same}
use Rattle.residents.proofs.Kept.{next_is_ready}
use Rattle.residents.proofs.Slots.{at_key_is}
use Rattle.residents.proofs.Acting.{ActsThere, fork_acts, moved_acts, sent_acts, synced_acts}
use Rattle.birth_notice.specs.Family.{first_unsynced}

-- ---- the first that passes, among numbers that rise

first_is_least : (t : ℕ → Bool) (xs : List ℕ) (n : ℕ) → are_rising xs ≡ true → find t xs ≡ Some n → (q : ℕ) → list_any (at_key q) xs ≡ true → t q ≡ true → ltb q n ≡ false
first_is_least t [] n rise found q there passes = cc
first_is_least t (x ∷ xs) n rise found q there passes = by_tests (t x) (at_key q x) refl refl found there (first_is_least t xs n parts.1)
  where
    parts : (list_all (λ m. ltb x m) xs ≡ true) × (are_rising xs ≡ true)
    parts = and_parts (list_all (λ m. ltb x m) xs) (are_rising xs) rise

    not_below : (n : ℕ) → ltb n n ≡ false
    not_below n = grind (arith, nat_tests)

    later_not : (x q n : ℕ) → ltb x q ≡ true → x ≡ n → ltb q n ≡ false
    later_not x q n later same = grind (arith, nat_tests)

    above : (xs : List ℕ) → list_all (λ m. ltb x m) xs ≡ true → list_any (at_key q) xs ≡ true → ltb x q ≡ true
    above [] all any = cc
    above (y ∷ ys) all any = by_test (at_key q y) refl any (above ys (and_parts (ltb x y) (list_all (λ m. ltb x m) ys) all).1)
      where
        by_test : (b : Bool) → at_key q y ≡ b → (b || list_any (at_key q) ys) ≡ true → (list_any (at_key q) ys ≡ true → ltb x q ≡ true) → ltb x q ≡ true
        by_test true is any more = ap (ltb x) (sym (eqb-true y q (sym (at_key_is q y) ∙ is))) ∙ (and_parts (ltb x y) (list_all (λ m. ltb x m) ys) all).0
        by_test false is any more = more any

    by_tests : (b c : Bool) → t x ≡ b → at_key q x ≡ c → cond b (Some x) (find t xs) ≡ Some n → (c || list_any (at_key q) xs) ≡ true
        → (find t xs ≡ Some n → (q : ℕ) → list_any (at_key q) xs ≡ true → t q ≡ true → ltb q n ≡ false) → ltb q n ≡ false
    by_tests true true is at found there more = (λ i. ltb (sym (eqb-true x q (sym (at_key_is q x) ∙ at)) i) n) ∙ ap (ltb x) (sym (same_Some x n found)) ∙ not_below x
    by_tests true false is at found there more = later_not x q n (above xs parts.0 there) (same_Some x n found)
    by_tests false true is at found there more = absurd (true≢false (sym passes ∙ ap t (sym (eqb-true x q (sym (at_key_is q x) ∙ at))) ∙ is))
    by_tests false false is at found there more = more found q there passes

-- none passes where none is found
none_passes : (t : ℕ → Bool) (xs : List ℕ) → find t xs ≡ None → (q : ℕ) → list_any (at_key q) xs ≡ true → t q ≡ false
none_passes t [] none q there = cc
none_passes t (x ∷ xs) none q there = by_tests (t x) (at_key q x) refl refl none there (none_passes t xs)
  where
    by_tests : (b c : Bool) → t x ≡ b → at_key q x ≡ c → cond b (Some x) (find t xs) ≡ None → (c || list_any (at_key q) xs) ≡ true
        → (find t xs ≡ None → (q : ℕ) → list_any (at_key q) xs ≡ true → t q ≡ false) → t q ≡ false
    by_tests true c is at none there more = cc
    by_tests false true is at none there more = ap t (sym (eqb-true x q (sym (at_key_is q x) ∙ at))) ∙ is
    by_tests false false is at none there more = more none q there

-- a number that passes, and below which no other passes, is found first
found_first : (t : ℕ → Bool) (xs : List ℕ) (n : ℕ) → are_rising xs ≡ true → list_any (at_key n) xs ≡ true → t n ≡ true → ((q : ℕ) → list_any (at_key q) xs ≡ true → t q ≡ true → ltb q n ≡ false) → find t xs ≡ Some n
found_first t [] n rise there passes least = cc
found_first t (x ∷ xs) n rise there passes least = by_tests (t x) (at_key n x) refl refl there (λ any. found_first t xs n parts.1 any passes (λ q there. least q (later q there)))
  where
    parts : (list_all (λ m. ltb x m) xs ≡ true) × (are_rising xs ≡ true)
    parts = and_parts (list_all (λ m. ltb x m) xs) (are_rising xs) rise

    or_true : (b : Bool) → (b || true) ≡ true
    or_true true = refl
    or_true false = refl

    later : (q : ℕ) → list_any (at_key q) xs ≡ true → list_any (at_key q) (x ∷ xs) ≡ true
    later q any = ap (λ b. at_key q x || b) any ∙ or_true (at_key q x)

    first : list_any (at_key x) (x ∷ xs) ≡ true
    first = ap (λ b. b || list_any (at_key x) xs) (at_key_is x x ∙ eq-eqb x x refl)

    above : (xs : List ℕ) → list_all (λ m. ltb x m) xs ≡ true → list_any (at_key n) xs ≡ true → ltb x n ≡ true
    above [] all any = cc
    above (y ∷ ys) all any = by_test (at_key n y) refl any (above ys (and_parts (ltb x y) (list_all (λ m. ltb x m) ys) all).1)
      where
        by_test : (b : Bool) → at_key n y ≡ b → (b || list_any (at_key n) ys) ≡ true → (list_any (at_key n) ys ≡ true → ltb x n ≡ true) → ltb x n ≡ true
        by_test true is any more = ap (ltb x) (sym (eqb-true y n (sym (at_key_is n y) ∙ is))) ∙ (and_parts (ltb x y) (list_all (λ m. ltb x m) ys) all).0
        by_test false is any more = more any

    by_tests : (b c : Bool) → t x ≡ b → at_key n x ≡ c → (c || list_any (at_key n) xs) ≡ true → (list_any (at_key n) xs ≡ true → find t xs ≡ Some n) → cond b (Some x) (find t xs) ≡ Some n
    by_tests true true is at there more = ap Some (eqb-true x n (sym (at_key_is n x) ∙ at))
    by_tests true false is at there more = absurd (true≢false (sym (above xs parts.0 there) ∙ least x first is))
    by_tests false true is at there more = absurd (true≢false (sym passes ∙ ap t (sym (eqb-true x n (sym (at_key_is n x) ∙ at))) ∙ is))
    by_tests false false is at there more = more there

always : ℕ → Bool
always n = true

first_found : (xs : List ℕ) → find always xs ≡ first_of xs
unfolding always
first_found [] = refl
first_found (x ∷ xs) = refl

always_passes : (n : ℕ) → always n ≡ true
unfolding always
always_passes n = refl

-- ---- the next of some numbers among which the chosen one is

pub next_of_those : (ready able : List ℕ) (last n : ℕ) → are_rising ready ≡ true → are_rising able ≡ true → ((q : ℕ) → list_any (at_key q) able ≡ true → list_any (at_key q) ready ≡ true) → next_ready ready last ≡ Some n
    → list_any (at_key n) able ≡ true → next_ready able last ≡ Some n
next_of_those ready able last n rise rise_able among next there = by_case (find (λ m. ltb last m) ready) refl next
  where
    passes : (m : ℕ) → find (λ m. ltb last m) ready ≡ Some m → ltb last m ≡ true
    passes m is = found_passes ready is
      where
        found_passes : (xs : List ℕ) → find (λ m. ltb last m) xs ≡ Some m → ltb last m ≡ true
        found_passes [] found = cc
        found_passes (x ∷ xs) found = by_test (ltb last x) refl found (found_passes xs)
          where
            by_test : (b : Bool) → ltb last x ≡ b → cond b (Some x) (find (λ m. ltb last m) xs) ≡ Some m → (find (λ m. ltb last m) xs ≡ Some m → ltb last m ≡ true) → ltb last m ≡ true
            by_test true is found more = ap (ltb last) (sym (same_Some x m found)) ∙ is
            by_test false is found more = more found

    none_able : (xs : List ℕ) → ((q : ℕ) → list_any (at_key q) xs ≡ true → ltb last q ≡ false) → find (λ m. ltb last m) xs ≡ None
    none_able [] none = refl
    none_able (x ∷ xs) none =
        ap (λ b. cond b (Some x) (find (λ m. ltb last m) xs)) (none x (ap (λ b. b || list_any (at_key x) xs) (at_key_is x x ∙ eq-eqb x x refl)))
        ∙ none_able xs (λ q any. none q (ap (λ b. at_key q x || b) any ∙ or_true (at_key q x)))
      where
        or_true : (b : Bool) → (b || true) ≡ true
        or_true true = refl
        or_true false = refl

    by_case : (o : Option ℕ) → find (λ m. ltb last m) ready ≡ o → option_or o (first_of ready) ≡ Some n → next_ready able last ≡ Some n
    by_case (Some m) is found =
        let same : m ≡ n = same_Some m n found in
        let at : find (λ m. ltb last m) ready ≡ Some n = is ∙ found in
        ap (λ o. option_or o (first_of able))
        (found_first (λ m. ltb last m) able n rise_able there (passes n at) (λ q any above. first_is_least (λ m. ltb last m) ready n rise at q (among q any) above))
    by_case None is found =
        let none = none_able able (λ q any. none_passes (λ m. ltb last m) ready is q (among q any)) in
        let at : find always ready ≡ Some n = first_found ready ∙ found in
        ap (λ o. option_or o (first_of able)) none ∙ sym (first_found able)
        ∙ found_first always able n rise_able there (always_passes n) (λ q any above. first_is_least always ready n rise at q (among q any) above)

-- ---- those that can have a turn

fewer_rise : (t : Pid × Held → Bool) (here : List (Pid × Held)) → are_rising (pids_in here) ≡ true → are_rising (pids_in (filter t here)) ≡ true
fewer_rise t [] rise = refl
fewer_rise t (e ∷ here) rise = by_test (t e) (fewer_rise t here parts.1)
  where
    parts : (list_all (λ m. ltb (e.0).0 m) (pids_in here) ≡ true) × (are_rising (pids_in here) ≡ true)
    parts = and_parts (list_all (λ m. ltb (e.0).0 m) (pids_in here)) (are_rising (pids_in here)) rise

    all_fewer : (here : List (Pid × Held)) → list_all (λ m. ltb (e.0).0 m) (pids_in here) ≡ true → list_all (λ m. ltb (e.0).0 m) (pids_in (filter t here)) ≡ true
    all_fewer [] all = refl
    all_fewer (f ∷ here) all = by_turn (t f) (and_parts (ltb (e.0).0 (f.0).0) (list_all (λ m. ltb (e.0).0 m) (pids_in here)) all) (all_fewer here)
      where
        by_turn : (b : Bool) → (ltb (e.0).0 (f.0).0 ≡ true) × (list_all (λ m. ltb (e.0).0 m) (pids_in here) ≡ true)
            → (list_all (λ m. ltb (e.0).0 m) (pids_in here) ≡ true → list_all (λ m. ltb (e.0).0 m) (pids_in (filter t here)) ≡ true)
            → list_all (λ m. ltb (e.0).0 m) (pids_in (cond b (f ∷ filter t here) (filter t here))) ≡ true
        by_turn true both more = ap (λ b. b && list_all (λ m. ltb (e.0).0 m) (pids_in (filter t here))) both.0 ∙ more both.1
        by_turn false both more = more both.1

    by_test : (b : Bool) → are_rising (pids_in (filter t here)) ≡ true → are_rising (pids_in (cond b (e ∷ filter t here) (filter t here))) ≡ true
    by_test true more = ap (λ b. b && are_rising (pids_in (filter t here))) (all_fewer here parts.0) ∙ more
    by_test false more = more

module _ (duty : DutyView) (family : List (Pid × Pid)) (whole : List (Pid × Held)) where
  abbrev turns : Pid × Held → Bool
  turns = has_turn duty family whole

  -- each of them is ready, and no child hinders it
  able_ready : (slots : Slab Held) (ready asking : List ℕ) (es : List (ℕ × ℕ)) → AllByRecursion (IsSlot duty slots ready asking) es → (q : ℕ) → list_any (at_key q) (pids_in (filter turns (stands_in slots es))) ≡ true
      → (list_any (at_key q) ready ≡ true) × (is_free duty family whole q ≡ true)
  able_ready slots ready asking [] kept q any = cc
  able_ready slots ready asking (e ∷ es) kept q any = in_front (get slots e.1) (λ p is steps. (kept.0).able p is steps) any (able_ready slots ready asking es kept.1 q)
    where
      by_step : (p : Held) (b h c : Bool) → is_hindered duty family whole (pid_of e.0) ≡ h → at_key q e.0 ≡ c → (b ≡ true → list_any (at_key e.0) ready ≡ true)
          → list_any (at_key q) (pids_in (cond (b && not h) ((pid_of e.0, p) ∷ filter turns (stands_in slots es)) (filter turns (stands_in slots es)))) ≡ true
          → (list_any (at_key q) (pids_in (filter turns (stands_in slots es))) ≡ true → (list_any (at_key q) ready ≡ true) × (is_free duty family whole q ≡ true)) → (list_any (at_key q) ready ≡ true) × (is_free duty family whole q ≡ true)
      by_step p true false true free at ready_if any more =
          let same : e.0 ≡ q = eqb-true e.0 q (sym (at_key_is q e.0) ∙ at) in
          (ap (λ n. list_any (at_key n) ready) (sym same) ∙ ready_if refl, ap (is_free duty family whole) (sym same) ∙ ap not free)
      by_step p true false false free at ready_if any more = more (sym (ap (λ b. b || list_any (at_key q) (pids_in (filter turns (stands_in slots es)))) at) ∙ any)
      by_step p true true c free at ready_if any more = more any
      by_step p false h c free at ready_if any more = more any

      in_front : (o : Option Held) → ((p : Held) → o ≡ Some p → is_able duty (pid_of e.0, p) ≡ true → list_any (at_key e.0) ready ≡ true) → list_any (at_key q) (pids_in (filter turns (in_slot (pid_of e.0) o (stands_in slots es)))) ≡ true
          → (list_any (at_key q) (pids_in (filter turns (stands_in slots es))) ≡ true → (list_any (at_key q) ready ≡ true) × (is_free duty family whole q ≡ true)) → (list_any (at_key q) ready ≡ true) × (is_free duty family whole q ≡ true)
      in_front None ready_if any more = more any
      in_front (Some p) ready_if any more = by_step p (is_able duty (pid_of e.0, p)) (is_hindered duty family whole (pid_of e.0)) (at_key q e.0) refl refl (ready_if p refl) any more

  -- the process with a pid is one of them, where it has a step
  able_there : (n : ℕ) (here : List (Pid × Held)) (p : Held) → held_of here (pid_of n) ≡ Some p → is_able duty (pid_of n, p) ≡ true → is_free duty family whole n ≡ true → list_any (at_key n) (pids_in (filter turns here)) ≡ true
  able_there n [] p there steps free = cc
  able_there n (e ∷ here) p there steps free = by_tests (same_pid e.0 (pid_of n)) (is_able duty e) (is_hindered duty family whole e.0) refl refl refl there (λ there. able_there n here p there steps free)
    where
      by_tests : (b c h : Bool) → same_pid e.0 (pid_of n) ≡ b → is_able duty e ≡ c → is_hindered duty family whole e.0 ≡ h
          → option_map (λ (e : Pid × Held). e.1) (cond b (Some e) (find (λ (e : Pid × Held). same_pid e.0 (pid_of n)) here)) ≡ Some p
          → (held_of here (pid_of n) ≡ Some p → list_any (at_key n) (pids_in (filter turns here)) ≡ true) → list_any (at_key n) (pids_in (cond (c && not h) (e ∷ filter turns here) (filter turns here))) ≡ true
      by_tests true true false at has hinders there more = or_left (at_key n (e.0).0) (list_any (at_key n) (pids_in (filter turns here))) (at_key_is n (e.0).0 ∙ at)
      by_tests true true true at has hinders there more =
          let same : e.0 ≡ pid_of n = pid_same e.0 (pid_of n) (eqb-true (e.0).0 n at) in
          absurd (true≢false (sym free ∙ ap (λ p. not (is_hindered duty family whole p)) (sym same) ∙ ap not hinders))
      by_tests true false h at has hinders there more =
          let pid : e.0 ≡ pid_of n = pid_same e.0 (pid_of n) (eqb-true (e.0).0 n at) in
          let same : e.1 ≡ p = same_Some e.1 p there in
          absurd (true≢false (sym steps ∙ (λ i. is_able duty (sym pid i, sym same i)) ∙ has))
      by_tests false true false at has hinders there more = or_right (at_key n (e.0).0) (list_any (at_key n) (pids_in (filter turns here))) (more there)
      by_tests false true true at has hinders there more = more there
      by_tests false false h at has hinders there more = more there

  -- where none that is ready is free, none has a turn
  none_turns : (slots : Slab Held) (ready asking : List ℕ) (es : List (ℕ × ℕ)) → AllByRecursion (IsSlot duty slots ready asking) es → ((q : ℕ) → list_any (at_key q) ready ≡ true → is_free duty family whole q ≡ false) → list_all (λ (e : Pid × Held). not (turns e)) (stands_in slots es) ≡ true
  none_turns slots ready asking [] kept none = refl
  none_turns slots ready asking (e ∷ es) kept none = in_front (get slots e.1) (λ p is steps. none e.0 ((kept.0).able p is steps)) (none_turns slots ready asking es kept.1 none)
    where
      quiet : (b h : Bool) → (b ≡ true → not h ≡ false) → not (b && not h) ≡ true
      quiet true h hinders = ap not (hinders refl)
      quiet false h hinders = refl

      in_front : (o : Option Held) → ((p : Held) → o ≡ Some p → is_able duty (pid_of e.0, p) ≡ true → is_free duty family whole e.0 ≡ false) → list_all (λ (e : Pid × Held). not (turns e)) (stands_in slots es) ≡ true → list_all (λ (e : Pid × Held). not (turns e)) (in_slot (pid_of e.0) o (stands_in slots es)) ≡ true
      in_front None hinders more = more
      in_front (Some p) hinders more = and_from (not (turns (pid_of e.0, p))) (list_all (λ (e : Pid × Held). not (turns e)) (stands_in slots es)) (quiet (is_able duty (pid_of e.0, p)) (is_hindered duty family whole (pid_of e.0)) (hinders p refl)) more

module _ (duty : DutyView) (family : List (Pid × Pid)) (slots : Slab Held) (keys : List (ℕ × ℕ)) (ready asking : List ℕ) (last : ℕ) (kept : IsKept duty slots keys ready asking) where
  abbrev here : List (Pid × Held)
  here = stands_in slots keys

  -- where the next of those that are free can move, it is the next of those that can have a turn
  pub next_able : (n : ℕ) (p : Held) → are_rising ready ≡ true → are_rising (pids_in here) ≡ true → next_ready (filter (is_free duty family here) ready) last ≡ Some n → held_of here (pid_of n) ≡ Some p → is_able duty (pid_of n, p) ≡ true
      → next_ready (pids_able duty family here) last ≡ Some n
  next_able n p rise rise_here next there steps =
      let free = filtered_passes (is_free duty family here) ready n (next_is_ready (filter (is_free duty family here) ready) last n next) in
      next_of_those (filter (is_free duty family here) ready) (pids_able duty family here) last n (filter_rises (is_free duty family here) ready rise) (fewer_rise (has_turn duty family here) here rise_here)
      (λ q any. let both = able_ready duty family here slots ready asking keys kept.each q any in any_filtered (is_free duty family here) ready q both.0 both.1) next (able_there duty family here n here p there steps free)

  -- where none of them is next, none has a turn
  pub none_next : next_ready (filter (is_free duty family here) ready) last ≡ None → none_has_turn duty family here ≡ true
  none_next none = none_turns duty family here slots ready asking keys kept.each (none_passes_next (is_free duty family here) ready last none)

-- ---- the turn of the one that was chosen

-- what a turn of the process with a pid makes is the turn of the one that was chosen
module _ (by : ClusterNo) (family : List (Pid × Pid)) (n : ℕ) (was old given new : ResidentsView) (duty : old.duty ≡ was.duty) (here : old.here ≡ was.here) (last : old.last ≡ was.last) (able : NextAble n family old) (now : new.here ≡ given.here) (chosen : new.last ≡ n) where
  took : (quantum : Quantum) (h : Held) → held_of old.here (pid_of n) ≡ Some h → is_able old.duty (pid_of n, h) ≡ true → HasTurn old.duty by family (pid_of n) old.here quantum given.here → ChosenTurn by family was quantum new
  took quantum h there acts takes = record {
    chosen = (λ i. next_ready (pids_able (sym duty i) family (sym here i)) (sym last i)) ∙ able h there acts ∙ ap Some (sym chosen);
    takes = subst (λ m. HasTurn was.duty by family (pid_of m) was.here quantum new.here) (sym chosen)
        (subst (λ d. HasTurn d by family (pid_of n) was.here quantum new.here) duty
        (subst (λ hs. HasTurn old.duty by family (pid_of n) hs quantum new.here) here (subst (λ hs. HasTurn old.duty by family (pid_of n) old.here quantum hs) (sym now) takes)));
  }

  abbrev childless : Bool
  childless = is_none (first_unsynced family (pid_of n))

  -- one that acts
  acted : (quantum : Quantum) → ActsThere (old.duty).limits (pid_of n) old.here → HasTurn old.duty by family (pid_of n) old.here quantum given.here → ChosenTurn by family was quantum new
  acted quantum a takes = took quantum a.held a.there (acts_able old.duty (pid_of n) a.held a.acts) takes

  pub chosen_turn : (quantum : Quantum) → GivenTurnIs old.duty by family (pid_of n) old.here (Ok quantum) given.here → (quantum ≡ Stuck → ⊥) → TurnIs by family was (Ok quantum) new
  chosen_turn Moved takes ran = acted Moved (moved_acts (old.duty).limits by childless (pid_of n) old.here given.here takes.ran) takes
  chosen_turn (Sent sending) takes ran = acted (Sent sending) (sent_acts (old.duty).limits by childless (pid_of n) old.here given.here sending takes.ran) takes
  chosen_turn (Synced posts) (inl takes) ran = acted (Synced posts) (synced_acts (old.duty).limits by childless (pid_of n) old.here given.here posts takes.ran) (inl takes)
  chosen_turn (Synced posts) (inr syncs) ran = let b = before_is old.duty family old.here (pid_of n) syncs.child syncs.before in took (Synced posts) b.held b.there (comes_able old.duty (pid_of n) b.held b.comes) (inr syncs)
  chosen_turn (Renewed posts) takes ran = let r = takes.renews in took (Renewed posts) (Runs r.process) r.there (owed_able old.duty old.here (pid_of n) takes.to r.process r.there takes.owed) takes
  chosen_turn (Forks forking) takes ran = acted (Forks forking) (fork_acts (old.duty).limits by childless (pid_of n) old.here given.here forking takes.ran) takes
  chosen_turn Stuck takes ran = absurd (ran refl)
