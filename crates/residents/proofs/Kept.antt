-- The processes of a cluster in their slots stay as they have to: what is kept over a write, a removal and one more.
use Rattle.std.proofs.Common.{◌≡◌, ℕ, ◌<◌, Bool, true, false, cond, not, ◌||◌, ◌&&◌, eqb, ltb, eqb-true, eq-eqb, ne_eqb, List, [], ◌∷◌, ◌++◌, find, length, refl, sym, ap, subst, ◌∙◌, arith, Option, Some, None, IsSome, is_none, is_some, true≢false}
use Rattle.std.specs.Prelude.{filter, Result, Ok, Err, slice_get, slice_index_or, IfOk, IfSome}
use Rattle.std.specs.Borrow.{Bor}
use Rattle.std.specs.BTreeMap.Range.{range_contains}
use Rattle.std.specs.declared.ops.Bound.TheVariants.{Excluded, Unbounded}
use Rattle.std.specs.List.{list_any, list_all, AllByRecursion}
use Rattle.std.specs.List.Sorted.{IsStrictlySortedBy}
use Rattle.std.specs.Option.{option_or, option_copied}
use Rattle.std.specs.Ordering.{nat_cmp}
use Rattle.std.specs.declared.cmp.Ordering.TheVariants.{Less, Greater}
use Rattle.std.specs.Map.{lookup, remove_entry}
use Rattle.std.specs.BTreeMap.{insert_entry}
use Rattle.std.proofs.lemmas.Bool.Decides.{nat_tests}
use Rattle.std.proofs.lemmas.Bool.{false≢true, or_parts}
use Rattle.std.proofs.lemmas.Option.{same_Some}
use Rattle.slab.specs.Slab.{Slab, get, Updates}
use Rattle.t32_base.specs.declared.process.Pid.{Pid}
use Rattle.t32_base.specs.declared.process.ClusterNo.{ClusterNo}
use Rattle.residents.specs.Duty.{DutyView, is_able}
use Rattle.residents.specs.Held.{Held, can_act, page_lacked}
use Rattle.residents.specs.Told.{rests_in}
use Rattle.bus_msg.specs.Places.{same_pid}
use Rattle.plain_kernel.specs.Maps.{at_key, pid_of}
use Rattle.cert_sched.specs.Parts.{first_of}
use Rattle.cert_sched.proofs.RisingLaws.{NoTwo}
use Rattle.residents.specs.Residents.{is_stuck, are_rising, are_settled, pids_in, next_ready, is_stuck_at, lacks_none_at, stays_at, RunsOnAt, RunsRest, SyncsAt}
use Rattle.residents.specs.Changed.{with_changed, with_more}
use Rattle.residents.specs.Slots.{in_slot, stands_in, IsSlot, IsKept}
use Rattle.t32_base.specs.declared.streams.NoMemory.{NoMemory}
use Rattle.residents.specs.declared.quantum.Quantum.{Quantum}
use Rattle.residents.specs.declared.quantum.Quantum.TheVariants.{Moved, Sent, Synced, Renewed, Stuck, Forks}
use Rattle.bus_msg.specs.declared.entry.Post.{Post}
use Rattle.residents.specs.Quantum.{RunsQuantum, SyncsNow}
use Rattle.residents.proofs.Slots.{IsOne, all_more, all_removed, all_with, at_key_is, entry_goes, later_is_other, none_not_some, not_true, one_key, passes_each, passes_there, pids, process_there, slot_keys, taken_out, turned, written}

-- ---- what is kept

-- more pids may be ready, and more may ask
pub listed_more : (duty : DutyView) (slots : Slab Held) (keys : List (ℕ × ℕ)) (ready more asking wider : List ℕ) → ((q : ℕ) → list_any (at_key q) ready ≡ true → list_any (at_key q) more ≡ true)
    → ((q : ℕ) → list_any (at_key q) asking ≡ true → list_any (at_key q) wider ≡ true) → IsKept duty slots keys ready asking → IsKept duty slots keys more wider
listed_more duty slots keys ready more asking wider adds widens k = record {
  ordered = k.ordered;
  apart = k.apart;
  each = all_more (IsSlot duty slots ready asking) (IsSlot duty slots more wider) (λ e s. record { filled = s.filled; able = λ p is steps. adds e.0 (s.able p is steps); lacks = λ p is some. widens e.0 (s.lacks p is some) }) keys k.each;
}

-- a process was written, whose pid is ready where it can move, and asks where it has a page to ask for
pub kept_written : (duty : DutyView) (slots new : Slab Held) (n key : ℕ) (now : Held) (keys : List (ℕ × ℕ)) (ready asking : List ℕ) → (is_able duty (pid_of n, now) ≡ true → list_any (at_key n) ready ≡ true) → (is_some (page_lacked now) ≡ true → list_any (at_key n) asking ≡ true)
    → lookup (at_key n) keys ≡ Some key → Updates slots new key (Some now) → IsKept duty slots keys ready asking → IsKept duty new keys ready asking
kept_written duty slots new n key now keys ready asking able_now lacks_now found updates k = record {
  ordered = k.ordered;
  apart = k.apart;
  each = all_with (IsOne n key) (IsSlot duty slots ready asking) (IsSlot duty new ready asking) each keys (one_key n key keys k.ordered k.apart found) k.each;
}
  where
    each : (e : ℕ × ℕ) → IsOne n key e → IsSlot duty slots ready asking e → IsSlot duty new ready asking e
    each e one s = by_test (eqb e.1 key) refl
      where
        by_test : (b : Bool) → eqb e.1 key ≡ b → IsSlot duty new ready asking e
        by_test true is =
            let at : get new e.1 ≡ Some now = ap (get new) (eqb-true e.1 key is) ∙ updates.changed in
            let pid : e.0 ≡ n = eqb-true e.0 n (one ∙ is) in
            record {
              filled = ap is_some at;
              able = λ p there steps. ap (λ m. list_any (at_key m) ready) pid ∙ able_now (ap (λ (h : Held). is_able duty (pid_of n, h)) (same_Some now p (sym at ∙ there)) ∙ ap (λ m. is_able duty (pid_of m, p)) (sym pid) ∙ steps);
              lacks = λ p there some. ap (λ m. list_any (at_key m) asking) pid ∙ lacks_now (ap (λ (h : Held). is_some (page_lacked h)) (same_Some now p (sym at ∙ there)) ∙ some);
            }
        by_test false is =
            let same : get new e.1 ≡ get slots e.1 = updates.others e.1 (λ same. true≢false (sym (eq-eqb e.1 key same) ∙ is)) in
            record {
              filled = ap is_some same ∙ s.filled;
              able = λ p there steps. s.able p (sym same ∙ there) steps;
              lacks = λ p there some. s.lacks p (sym same ∙ there) some;
            }

-- a process is in a slot that no entry names
pub unnamed : (duty : DutyView) (slots : Slab Held) (ready asking : List ℕ) (key : ℕ) (es : List (ℕ × ℕ)) → AllByRecursion (IsSlot duty slots ready asking) es → get slots key ≡ None → AllByRecursion (λ (e : ℕ × ℕ). eqb e.1 key ≡ false) es
unnamed duty slots ready asking key es kept none = all_more (IsSlot duty slots ready asking) (λ (e : ℕ × ℕ). eqb e.1 key ≡ false) (λ e s. ne_eqb e.1 key (λ same. none_not_some (get slots e.1) (ap (get slots) same ∙ none) s.filled)) es kept

pub kept_beside : (duty : DutyView) (slots new : Slab Held) (key : ℕ) (o : Option Held) (keys : List (ℕ × ℕ)) (ready asking : List ℕ) → get slots key ≡ None → Updates slots new key o → IsKept duty slots keys ready asking → IsKept duty new keys ready asking
kept_beside duty slots new key o keys ready asking none updates k = record {
  ordered = k.ordered;
  apart = k.apart;
  each = all_with (λ (e : ℕ × ℕ). eqb e.1 key ≡ false) (IsSlot duty slots ready asking) (IsSlot duty new ready asking) each keys (unnamed duty slots ready asking key keys k.each none) k.each;
}
  where
    each : (e : ℕ × ℕ) → eqb e.1 key ≡ false → IsSlot duty slots ready asking e → IsSlot duty new ready asking e
    each e other s =
        let same : get new e.1 ≡ get slots e.1 = updates.others e.1 (λ same. true≢false (sym (eq-eqb e.1 key same) ∙ other)) in
        record {
          filled = ap is_some same ∙ s.filled;
          able = λ p there steps. s.able p (sym same ∙ there) steps;
          lacks = λ p there some. s.lacks p (sym same ∙ there) some;
        }

-- ---- one more

before_it : (n x : ℕ) → ltb n x ≡ true → nat_cmp n x ≡ Less
before_it n x is = grind (arith, nat_tests)

after_it : (n x : ℕ) → ltb n x ≡ false → eqb x n ≡ false → nat_cmp n x ≡ Greater
after_it n x is other = grind (arith, nat_tests)

abbrev OtherPids : ℕ → List (ℕ × ℕ) → Type 0
OtherPids n es = AllByRecursion (λ (e : ℕ × ℕ). eqb e.0 n ≡ false) es

-- an entry is put before the first with a higher pid
put_first : (n key : ℕ) (e : ℕ × ℕ) (es : List (ℕ × ℕ)) → eqb e.0 n ≡ false → insert_entry nat_cmp (e ∷ es) n key ≡ cond (ltb n e.0) ((n, key) ∷ e ∷ es) (e ∷ insert_entry nat_cmp es n key)
put_first n key e es other = by_test (ltb n e.0) refl
  where
    by_test : (b : Bool) → ltb n e.0 ≡ b → insert_entry nat_cmp (e ∷ es) n key ≡ cond b ((n, key) ∷ e ∷ es) (e ∷ insert_entry nat_cmp es n key)
    by_test true is = rw (before_it n e.0 is) refl
    by_test false is = rw (after_it n e.0 is other) refl

-- no entry has the pid of a process that is not here
pub none_here : (duty : DutyView) (slots : Slab Held) (ready asking : List ℕ) (n : ℕ) (es : List (ℕ × ℕ)) → AllByRecursion (IsSlot duty slots ready asking) es → list_any (λ (e : Pid × Held). same_pid e.0 (pid_of n)) (stands_in slots es) ≡ false → OtherPids n es
none_here duty slots ready asking n [] kept none = tt
none_here duty slots ready asking n (e ∷ es) kept none = let parts = in_front (get slots e.1) (kept.0).filled none in (parts.0, none_here duty slots ready asking n es kept.1 parts.1)
  where
    in_front : (o : Option Held) → IsSome o → list_any (λ (e : Pid × Held). same_pid e.0 (pid_of n)) (in_slot (pid_of e.0) o (stands_in slots es)) ≡ false
        → (eqb e.0 n ≡ false) × (list_any (λ (e : Pid × Held). same_pid e.0 (pid_of n)) (stands_in slots es) ≡ false)
    in_front None there none = absurd (false≢true there)
    in_front (Some p) there none = or_parts (eqb e.0 n) (list_any (λ (e : Pid × Held). same_pid e.0 (pid_of n)) (stands_in slots es)) none

pub stands_put : (duty : DutyView) (slots : Slab Held) (ready asking : List ℕ) (n key : ℕ) (p : Held) (es : List (ℕ × ℕ)) → get slots key ≡ Some p → AllByRecursion (IsSlot duty slots ready asking) es → OtherPids n es
    → stands_in slots (insert_entry nat_cmp es n key) ≡ with_more (pid_of n) p (stands_in slots es)
stands_put duty slots ready asking n key p [] there kept others = ap (λ o. in_slot (pid_of n) o []) there
stands_put duty slots ready asking n key p (e ∷ es) there kept others = ap (stands_in slots) (put_first n key e es others.0) ∙ by_slot (get slots e.1) refl (kept.0).filled (stands_put duty slots ready asking n key p es there kept.1 others.1)
  where
    by_slot : (o : Option Held) → get slots e.1 ≡ o → IsSome o → stands_in slots (insert_entry nat_cmp es n key) ≡ with_more (pid_of n) p (stands_in slots es)
        → stands_in slots (cond (ltb n e.0) ((n, key) ∷ e ∷ es) (e ∷ insert_entry nat_cmp es n key)) ≡ with_more (pid_of n) p (in_slot (pid_of e.0) o (stands_in slots es))
    by_slot None is filled more = absurd (false≢true filled)
    by_slot (Some q) is filled more = by_test (ltb n e.0)
      where
        by_test : (b : Bool) → stands_in slots (cond b ((n, key) ∷ e ∷ es) (e ∷ insert_entry nat_cmp es n key)) ≡ cond b ((pid_of n, p) ∷ (pid_of e.0, q) ∷ stands_in slots es) ((pid_of e.0, q) ∷ with_more (pid_of n) p (stands_in slots es))
        by_test true = λ i. in_slot (pid_of n) (there i) (in_slot (pid_of e.0) (is i) (stands_in slots es))
        by_test false = λ i. in_slot (pid_of e.0) (is i) (more i)

any_put : (t : ℕ → Bool) (n key : ℕ) (es : List (ℕ × ℕ)) → OtherPids n es → list_any t (slot_keys es) ≡ false → t key ≡ false → list_any t (slot_keys (insert_entry nat_cmp es n key)) ≡ false
any_put t n key [] others none other = ap (λ b. b || false) other
any_put t n key (e ∷ es) others none other = ap (λ es. list_any t (slot_keys es)) (put_first n key e es others.0) ∙ by_test (ltb n e.0) (any_put t n key es others.1 (or_parts (t e.1) (list_any t (slot_keys es)) none).1 other)
  where
    by_test : (b : Bool) → list_any t (slot_keys (insert_entry nat_cmp es n key)) ≡ false → list_any t (slot_keys (cond b ((n, key) ∷ e ∷ es) (e ∷ insert_entry nat_cmp es n key))) ≡ false
    by_test true more = λ i. other i || none i
    by_test false more = λ i. (or_parts (t e.1) (list_any t (slot_keys es)) none).0 i || more i

none_keyed : (key : ℕ) (es : List (ℕ × ℕ)) → AllByRecursion (λ (e : ℕ × ℕ). eqb e.1 key ≡ false) es → list_any (λ m. eqb m key) (slot_keys es) ≡ false
none_keyed key [] all = refl
none_keyed key (e ∷ es) all = λ i. all.0 i || none_keyed key es all.1 i

apart_put : (n key : ℕ) (es : List (ℕ × ℕ)) → OtherPids n es → NoTwo (slot_keys es) → AllByRecursion (λ (e : ℕ × ℕ). eqb e.1 key ≡ false) es → NoTwo (slot_keys (insert_entry nat_cmp es n key))
apart_put n key [] others apart keys = (refl, tt)
apart_put n key (e ∷ es) others apart keys = subst (λ es. NoTwo (slot_keys es)) (sym (put_first n key e es others.0)) (by_test (ltb n e.0) (apart_put n key es others.1 apart.1 keys.1))
  where
    by_test : (b : Bool) → NoTwo (slot_keys (insert_entry nat_cmp es n key)) → NoTwo (slot_keys (cond b ((n, key) ∷ e ∷ es) (e ∷ insert_entry nat_cmp es n key)))
    by_test true more = (none_keyed key (e ∷ es) keys, apart)
    by_test false more = (any_put (λ m. eqb m e.1) n key es others.1 apart.0 (turned e.1 key keys.0), more)

all_put : (P : ℕ × ℕ → Type 0) (n key : ℕ) (es : List (ℕ × ℕ)) → OtherPids n es → AllByRecursion P es → P (n, key) → AllByRecursion P (insert_entry nat_cmp es n key)
all_put P n key [] others all mine = (mine, tt)
all_put P n key (e ∷ es) others all mine = subst (AllByRecursion P) (sym (put_first n key e es others.0)) (by_test (ltb n e.0) (all_put P n key es others.1 all.1 mine))
  where
    by_test : (b : Bool) → AllByRecursion P (insert_entry nat_cmp es n key) → AllByRecursion P (cond b ((n, key) ∷ e ∷ es) (e ∷ insert_entry nat_cmp es n key))
    by_test true more = (mine, all)
    by_test false more = (all.0, more)

pub kept_added : (duty : DutyView) (slots : Slab Held) (n key : ℕ) (keys : List (ℕ × ℕ)) (ready asking : List ℕ) → IsSome (get slots key) → AllByRecursion (λ (e : ℕ × ℕ). eqb e.1 key ≡ false) keys → OtherPids n keys
    → list_any (at_key n) ready ≡ true → list_any (at_key n) asking ≡ true → IsStrictlySortedBy nat_cmp (pids (insert_entry nat_cmp keys n key)) → IsKept duty slots keys ready asking → IsKept duty slots (insert_entry nat_cmp keys n key) ready asking
kept_added duty slots n key keys ready asking there unkeyed others listed asks ordered k = record {
  ordered = ordered;
  apart = apart_put n key keys others k.apart unkeyed;
  each = all_put (IsSlot duty slots ready asking) n key keys others k.each (record { filled = there; able = λ p is steps. listed; lacks = λ p is some. asks });
}

-- ---- one less

any_removed : (t u : ℕ → Bool) (es : List (ℕ × ℕ)) → list_any t (slot_keys es) ≡ false → list_any t (slot_keys (remove_entry u es)) ≡ false
any_removed t u [] none = none
any_removed t u (e ∷ es) none =
    let parts = or_parts (t e.1) (list_any t (slot_keys es)) none in
    by_test parts.0 parts.1 (u e.0) (any_removed t u es parts.1)
  where
    by_test : t e.1 ≡ false → list_any t (slot_keys es) ≡ false → (b : Bool) → list_any t (slot_keys (remove_entry u es)) ≡ false → list_any t (slot_keys (cond b es (e ∷ remove_entry u es))) ≡ false
    by_test first rest true more = rest
    by_test first rest false more = ap (λ b. b || list_any t (slot_keys (remove_entry u es))) first ∙ more

apart_removed : (u : ℕ → Bool) (es : List (ℕ × ℕ)) → NoTwo (slot_keys es) → NoTwo (slot_keys (remove_entry u es))
apart_removed u [] apart = tt
apart_removed u (e ∷ es) apart = by_test (u e.0) (apart_removed u es apart.1)
  where
    by_test : (b : Bool) → NoTwo (slot_keys (remove_entry u es)) → NoTwo (slot_keys (cond b es (e ∷ remove_entry u es)))
    by_test true more = apart.1
    by_test false more = (any_removed (λ m. eqb m e.1) u es apart.0, more)

later_apart : (x n : ℕ) (es : List (ℕ × ℕ)) → AllByRecursion (λ y. nat_cmp x y ≡ Less) (pids es) → x ≡ n → AllByRecursion (λ (e : ℕ × ℕ). eqb e.0 n ≡ false) es
later_apart x n [] later same = tt
later_apart x n (e ∷ es) later same = (later_is_other x e.0 n later.0 same, later_apart x n es later.1 same)

pub gone : (n : ℕ) (es : List (ℕ × ℕ)) → IsStrictlySortedBy nat_cmp (pids es) → AllByRecursion (λ (e : ℕ × ℕ). eqb e.0 n ≡ false) (remove_entry (at_key n) es)
unfolding IsStrictlySortedBy
gone n [] ordered = tt
gone n (e ∷ es) ordered = by_test (at_key n e.0) (at_key_is n e.0) (gone n es ordered.1)
  where
    by_test : (b : Bool) → b ≡ eqb e.0 n → AllByRecursion (λ (e : ℕ × ℕ). eqb e.0 n ≡ false) (remove_entry (at_key n) es) → AllByRecursion (λ (e : ℕ × ℕ). eqb e.0 n ≡ false) (cond b es (e ∷ remove_entry (at_key n) es))
    by_test true is more = later_apart e.0 n es ordered.0 (eqb-true e.0 n (sym is))
    by_test false is more = (sym is, more)

-- the pids that are left, but one, are listed as they were
abbrev pub LeavesOthers : ℕ → List ℕ → List ℕ → Type 0
LeavesOthers n old less = (q : ℕ) → at_key n q ≡ false → list_any (at_key q) less ≡ list_any (at_key q) old

pub kept_gone : (duty : DutyView) (slots new : Slab Held) (n key : ℕ) (keys : List (ℕ × ℕ)) (ready less asking fewer : List ℕ) → lookup (at_key n) keys ≡ Some key → Updates slots new key None → LeavesOthers n ready less → LeavesOthers n asking fewer
    → IsStrictlySortedBy nat_cmp (pids (remove_entry (at_key n) keys)) → IsKept duty slots keys ready asking → IsKept duty new (remove_entry (at_key n) keys) less fewer
kept_gone duty slots new n key keys ready less asking fewer found updates keeps leaves ordered k = record {
  ordered = ordered;
  apart = apart_removed (at_key n) keys k.apart;
  each =
      all_with (λ (e : ℕ × ℕ). eqb e.0 n ≡ false) (λ (e : ℕ × ℕ). IsOne n key e × IsSlot duty slots ready asking e) (IsSlot duty new less fewer) each (remove_entry (at_key n) keys) (gone n keys k.ordered)
      (all_removed (λ (e : ℕ × ℕ). IsOne n key e × IsSlot duty slots ready asking e) (at_key n) keys
      (all_with (IsOne n key) (IsSlot duty slots ready asking) (λ (e : ℕ × ℕ). IsOne n key e × IsSlot duty slots ready asking e) (λ e one s. (one, s)) keys (one_key n key keys k.ordered k.apart found) k.each));
}
  where
    each : (e : ℕ × ℕ) → eqb e.0 n ≡ false → IsOne n key e × IsSlot duty slots ready asking e → IsSlot duty new less fewer e
    each e other s =
        let same : get new e.1 ≡ get slots e.1 = updates.others e.1 (λ same. true≢false (sym (eq-eqb e.1 key same) ∙ sym s.0 ∙ other)) in
        record {
          filled = ap is_some same ∙ (s.1).filled;
          able = λ p there steps. keeps e.0 (at_key_is n e.0 ∙ other) ∙ (s.1).able p (sym same ∙ there) steps;
          lacks = λ p there some. leaves e.0 (at_key_is n e.0 ∙ other) ∙ (s.1).lacks p (sym same ∙ there) some;
        }

-- ---- one rests

filled_each : (duty : DutyView) (slots : Slab Held) (ready asking : List ℕ) (es : List (ℕ × ℕ)) → AllByRecursion (IsSlot duty slots ready asking) es → AllByRecursion (λ (e : ℕ × ℕ). IsSome (get slots e.1)) es
filled_each duty slots ready asking es kept = all_more (IsSlot duty slots ready asking) (λ (e : ℕ × ℕ). IsSome (get slots e.1)) (λ e s. s.filled) es kept

-- one that cannot move is no longer ready
pub kept_resting : (duty : DutyView) (slots : Slab Held) (n : ℕ) (keys : List (ℕ × ℕ)) (ready less asking : List ℕ) → is_stuck_at duty (pid_of n) (stands_in slots keys) ≡ true → LeavesOthers n ready less → IsKept duty slots keys ready asking → IsKept duty slots keys less asking
kept_resting duty slots n keys ready less asking stuck keeps k = record {
  ordered = k.ordered;
  apart = k.apart;
  each =
      all_with (λ (e : ℕ × ℕ). (p : Held) → get slots e.1 ≡ Some p → eqb e.0 n ≡ true → is_stuck duty (pid_of n, p) ≡ true) (IsSlot duty slots ready asking) (IsSlot duty slots less asking) each keys
      (passes_each (λ p. is_stuck duty (pid_of n, p)) slots n keys (filled_each duty slots ready asking keys k.each) stuck) k.each;
}
  where
    each : (e : ℕ × ℕ) → ((p : Held) → get slots e.1 ≡ Some p → eqb e.0 n ≡ true → is_stuck duty (pid_of n, p) ≡ true) → IsSlot duty slots ready asking e → IsSlot duty slots less asking e
    each e quiet s = record { filled = s.filled; able = λ p there steps. by_test (eqb e.0 n) refl p there steps; lacks = s.lacks }
      where
        by_test : (b : Bool) → eqb e.0 n ≡ b → (p : Held) → get slots e.1 ≡ Some p → is_able duty (pid_of e.0, p) ≡ true → list_any (at_key e.0) less ≡ true
        by_test true is p there steps = absurd (true≢false (sym steps ∙ ap (λ m. is_able duty (pid_of m, p)) (eqb-true e.0 n is) ∙ not_true (is_able duty (pid_of n, p)) (quiet p there is)))
        by_test false is p there steps = keeps e.0 (at_key_is n e.0 ∙ is) ∙ s.able p there steps

-- one that has no page to ask for asks no longer
pub kept_asked : (duty : DutyView) (slots : Slab Held) (n : ℕ) (keys : List (ℕ × ℕ)) (ready asking fewer : List ℕ) → lacks_none_at (pid_of n) (stands_in slots keys) ≡ true → LeavesOthers n asking fewer → IsKept duty slots keys ready asking → IsKept duty slots keys ready fewer
kept_asked duty slots n keys ready asking fewer none leaves k = record {
  ordered = k.ordered;
  apart = k.apart;
  each =
      all_with (λ (e : ℕ × ℕ). (p : Held) → get slots e.1 ≡ Some p → eqb e.0 n ≡ true → is_none (page_lacked p) ≡ true) (IsSlot duty slots ready asking) (IsSlot duty slots ready fewer) each keys
      (passes_each (λ p. is_none (page_lacked p)) slots n keys (filled_each duty slots ready asking keys k.each) none) k.each;
}
  where
    not_both : (o : Option ℕ) → is_none o ≡ true → is_some o ≡ true → ⊥
    not_both None none some = absurd (false≢true some)
    not_both (Some i) none some = absurd (false≢true none)

    each : (e : ℕ × ℕ) → ((p : Held) → get slots e.1 ≡ Some p → eqb e.0 n ≡ true → is_none (page_lacked p) ≡ true) → IsSlot duty slots ready asking e → IsSlot duty slots ready fewer e
    each e has s = record { filled = s.filled; able = s.able; lacks = λ p there some. by_test (eqb e.0 n) refl p there some }
      where
        by_test : (b : Bool) → eqb e.0 n ≡ b → (p : Held) → get slots e.1 ≡ Some p → is_some (page_lacked p) ≡ true → list_any (at_key e.0) fewer ≡ true
        by_test true is p there some = absurd (not_both (page_lacked p) (has p there is) some)
        by_test false is p there some = leaves e.0 (at_key_is n e.0 ∙ is) ∙ s.lacks p there some

-- ---- the next

pub first_some : {X : Type 0} → (xs : List X) → first_of xs ≡ None → xs ≡ []
first_some [] none = refl
first_some (x ∷ xs) none = cc

pub none_ready : (ready : List ℕ) (last : ℕ) → next_ready ready last ≡ None → ready ≡ []
none_ready ready last none = by_case (find (λ n. ltb last n) ready) none
  where
    by_case : (o : Option ℕ) → option_or o (first_of ready) ≡ None → ready ≡ []
    by_case None none = first_some ready none
    by_case (Some n) none = cc

find_any : (t : ℕ → Bool) (n : ℕ) (xs : List ℕ) → find t xs ≡ Some n → list_any (at_key n) xs ≡ true
find_any t n [] found = cc
find_any t n (x ∷ xs) found = by_test (t x) found (λ found. find_any t n xs found)
  where
    or_true : (b : Bool) → (b || true) ≡ true
    or_true true = refl
    or_true false = refl

    by_test : (b : Bool) → cond b (Some x) (find t xs) ≡ Some n → (find t xs ≡ Some n → list_any (at_key n) xs ≡ true) → (at_key n x || list_any (at_key n) xs) ≡ true
    by_test true found more = ap (λ b. b || list_any (at_key n) xs) (at_key_is n x ∙ eq-eqb x n (same_Some x n found))
    by_test false found more = ap (λ b. at_key n x || b) (more found) ∙ or_true (at_key n x)

pub first_any : (n : ℕ) (xs : List ℕ) → first_of xs ≡ Some n → list_any (at_key n) xs ≡ true
first_any n [] first = cc
first_any n (x ∷ xs) first = ap (λ b. b || list_any (at_key n) xs) (at_key_is n x ∙ eq-eqb x n (same_Some x n first))

pub next_is_ready : (ready : List ℕ) (last n : ℕ) → next_ready ready last ≡ Some n → list_any (at_key n) ready ≡ true
next_is_ready ready last n next = by_case (find (λ m. ltb last m) ready) refl next
  where
    by_case : (o : Option ℕ) → find (λ m. ltb last m) ready ≡ o → option_or o (first_of ready) ≡ Some n → list_any (at_key n) ready ≡ true
    by_case None is next = first_any n ready next
    by_case (Some m) is next = find_any (λ m. ltb last m) n ready (is ∙ next)

-- ---- rest

-- numbers in strict order rise
all_after : (n : ℕ) (ns : List ℕ) → AllByRecursion (λ y. nat_cmp n y ≡ Less) ns → list_all (λ m. ltb n m) ns ≡ true
all_after n [] later = refl
all_after n (m ∷ ns) later = ap (λ b. b && list_all (λ m. ltb n m) ns) (less_is n m later.0) ∙ all_after n ns later.1
  where
    less_is : (n m : ℕ) → nat_cmp n m ≡ Less → ltb n m ≡ true
    less_is n m less = grind (arith, nat_tests)

pub in_order : (ns : List ℕ) → IsStrictlySortedBy nat_cmp ns → are_rising ns ≡ true
unfolding IsStrictlySortedBy
in_order [] ordered = refl
in_order (n ∷ ns) ordered = ap (λ b. b && are_rising ns) (all_after n ns ordered.0) ∙ in_order ns ordered.1

pub pids_stand : (duty : DutyView) (slots : Slab Held) (ready asking : List ℕ) (es : List (ℕ × ℕ)) → AllByRecursion (IsSlot duty slots ready asking) es → pids_in (stands_in slots es) ≡ pids es
pids_stand duty slots ready asking [] kept = refl
pids_stand duty slots ready asking (e ∷ es) kept = in_front (get slots e.1) (kept.0).filled (pids_stand duty slots ready asking es kept.1)
  where
    in_front : (o : Option Held) → IsSome o → pids_in (stands_in slots es) ≡ pids es → pids_in (in_slot (pid_of e.0) o (stands_in slots es)) ≡ e.0 ∷ pids es
    in_front None there more = absurd (false≢true there)
    in_front (Some p) there more = ap (λ ns. e.0 ∷ ns) more

pub rising_here : (duty : DutyView) (slots : Slab Held) (keys : List (ℕ × ℕ)) (ready asking : List ℕ) → IsKept duty slots keys ready asking → are_rising (pids_in (stands_in slots keys)) ≡ true
rising_here duty slots keys ready asking k = ap are_rising (pids_stand duty slots ready asking keys k.each) ∙ in_order (pids keys) k.ordered

-- what rests, after some: all, or nothing where one of them can move or waits
abbrev pub rests_with : DutyView → List (Pid × ℕ) → List (Pid × Held) → Option (List (Pid × ℕ))
rests_with duty before here = cond (are_settled duty here) (Some (before ++ rests_in here)) None

-- ---- one process of those that are kept

filled_at : (duty : DutyView) (slots : Slab Held) (ready asking : List ℕ) (n key : ℕ) (es : List (ℕ × ℕ)) → lookup (at_key n) es ≡ Some key → AllByRecursion (IsSlot duty slots ready asking) es → IsSome (get slots key)
filled_at duty slots ready asking n key [] found kept = cc
filled_at duty slots ready asking n key (e ∷ es) found kept = by_test (at_key n e.0) found (λ found. filled_at duty slots ready asking n key es found kept.1)
  where
    by_test : (b : Bool) → cond b (Some e.1) (lookup (at_key n) es) ≡ Some key → (lookup (at_key n) es ≡ Some key → IsSome (get slots key)) → IsSome (get slots key)
    by_test true found more = ap (λ k. is_some (get slots k)) (sym (same_Some e.1 key found)) ∙ (kept.0).filled
    by_test false found more = more found

pub never_empty : (duty : DutyView) (slots : Slab Held) (n key : ℕ) (keys : List (ℕ × ℕ)) (ready asking : List ℕ) → IsKept duty slots keys ready asking → lookup (at_key n) keys ≡ Some key → get slots key ≡ None → ⊥
never_empty duty slots n key keys ready asking k found none = none_not_some (get slots key) none (filled_at duty slots ready asking n key keys found k.each)

-- a slot that is written as it was
pub written_back : (slots new : Slab Held) (key : ℕ) (was now : Held) (es : List (ℕ × ℕ)) → get slots key ≡ Some was → Updates slots new key (Some now) → now ≡ was → stands_in new es ≡ stands_in slots es
written_back slots new key was now [] there updates same = refl
written_back slots new key was now (e ∷ es) there updates same =
    let more : stands_in new es ≡ stands_in slots es = written_back slots new key was now es there updates same in
    let here : get new e.1 ≡ get slots e.1 = by_test (eqb e.1 key) refl in
    λ i. in_slot (pid_of e.0) (here i) (more i)
  where
    by_test : (b : Bool) → eqb e.1 key ≡ b → get new e.1 ≡ get slots e.1
    by_test true is =
        let at : e.1 ≡ key = eqb-true e.1 key is in
        ap (get new) at ∙ updates.changed ∙ ap Some same ∙ sym there ∙ ap (get slots) (sym at)
    by_test false is = updates.others e.1 (λ same. true≢false (sym (eq-eqb e.1 key same) ∙ is))

-- a process had its turn
module _ (duty : DutyView) (by : ClusterNo) (childless : Bool) (made : ℕ) (slots new : Slab Held) (n key : ℕ) (keys : List (ℕ × ℕ)) (ready asking : List ℕ) (was now : Held) (old : List (Pid × Held)) (kept : IsKept duty slots keys ready asking) (found : lookup (at_key n) keys ≡ Some key)
    (there : get slots key ≡ Some was) (updates : Updates slots new key (Some now)) (same : stands_in slots keys ≡ old) where
  took : (quantum : Quantum) → RunsQuantum duty.limits by 64 childless made was (Ok quantum) now → RunsRest duty.limits by childless made (pid_of n) old quantum (stands_in new keys)
  took quantum ran =
      subst (λ old. RunsRest duty.limits by childless made (pid_of n) old quantum (stands_in new keys)) same
      (record {
        was = was;
        now = now;
        there = process_there slots n key was keys found there;
        ran = ran;
        here = written slots new n key was now (λ e. (pid_of n, now)) keys (one_key n key keys kept.ordered kept.apart found) there updates refl;
      })

  pub ran_at : (r : Result Quantum NoMemory) → RunsQuantum duty.limits by 64 childless made was r now → RunsOnAt duty.limits by childless made (pid_of n) old r (stands_in new keys)
  ran_at (Ok Moved) ran = took Moved ran
  ran_at (Ok (Sent sending)) ran = took (Sent sending) ran
  ran_at (Ok (Synced posts)) ran = took (Synced posts) ran
  ran_at (Ok (Renewed posts)) ran = absurd ran
  ran_at (Ok (Forks forking)) ran = took (Forks forking) ran
  ran_at (Ok Stuck) ran = (
    ran.0,
    ap (stays_at duty.limits (pid_of n)) (sym same) ∙ passes_there (λ p. not (can_act duty.limits p)) slots n key was keys (one_key n key keys kept.ordered kept.apart found) there (ap not ran.1),
    written_back slots new key was now keys there updates ran.2 ∙ same,
  )
  ran_at (Err fault) ran = (ran.0, written_back slots new key was now keys there updates ran.1 ∙ same)

-- a process that runs synchronised
pub syncs_at : (duty : DutyView) (by : ClusterNo) (slots new : Slab Held) (n key : ℕ) (keys : List (ℕ × ℕ)) (ready asking : List ℕ) (was now : Held) (old : List (Pid × Held)) → IsKept duty slots keys ready asking → lookup (at_key n) keys ≡ Some key → get slots key ≡ Some was
    → Updates slots new key (Some now) → stands_in slots keys ≡ old → (r : Result (List Post) NoMemory) → IfOk r (λ posts. SyncsNow by was posts now) → IfOk r (λ posts. SyncsAt by (pid_of n) old posts (stands_in new keys))
syncs_at duty by slots new n key keys ready asking was now old kept found there updates same (Ok posts) s =
    subst (λ old. SyncsAt by (pid_of n) old posts (stands_in new keys)) same
    (record {
      process = s.process;
      there = process_there slots n key was keys found there ∙ ap Some s.old_is;
      posts_are = s.posts_are;
      here = written slots new n key was now (λ e. (pid_of n, now)) keys (one_key n key keys kept.ordered kept.apart found) there updates refl ∙ ap (λ (h : Held). with_changed (pid_of n) h (stands_in slots keys)) s.new_is;
    })
syncs_at duty by slots new n key keys ready asking was now old kept found there updates same (Err fault) s = tt

-- a process goes with its entry
pub goes : (duty : DutyView) (slots new : Slab Held) (n key : ℕ) (keys : List (ℕ × ℕ)) (ready asking : List ℕ) → IsKept duty slots keys ready asking → lookup (at_key n) keys ≡ Some key → Updates slots new key None
    → stands_in new (remove_entry (at_key n) keys) ≡ filter (λ (e : Pid × Held). not (same_pid e.0 (pid_of n))) (stands_in slots keys)
goes duty slots new n key keys ready asking kept found updates = entry_goes new (at_key n) key keys found updates.changed ∙ taken_out slots new n key keys (one_key n key keys kept.ordered kept.apart found) updates

-- ---- the first of those above

pub first_filtered : (t u : ℕ → Bool) → ((n : ℕ) → t n ≡ u n) → (xs : List ℕ) → first_of (filter t xs) ≡ find u xs
first_filtered t u same [] = refl
first_filtered t u same (x ∷ xs) = by_test (t x) (u x) (same x) (first_filtered t u same xs)
  where
    by_test : (b c : Bool) → b ≡ c → first_of (filter t xs) ≡ find u xs → first_of (cond b (x ∷ filter t xs) (filter t xs)) ≡ cond c (Some x) (find u xs)
    by_test true true is more = refl
    by_test true false is more = absurd (true≢false is)
    by_test false true is more = absurd (false≢true is)
    by_test false false is more = more

in_range : (last m : ℕ) → range_contains nat_cmp (Excluded last) Unbounded m ≡ ltb last m
in_range last m = grind (arith, nat_tests)

-- those of a set above a number
find_above : (u : ℕ → Bool) (last : ℕ) (xs : List ℕ) → find u (filter (range_contains nat_cmp (Excluded last) Unbounded) xs) ≡ find (λ n. ltb last n && u n) xs
find_above u last [] = refl
find_above u last (x ∷ xs) = by_test (range_contains nat_cmp (Excluded last) Unbounded x) (ltb last x) (in_range last x) (find_above u last xs)
  where
    by_test : (b c : Bool) → b ≡ c → find u (filter (range_contains nat_cmp (Excluded last) Unbounded) xs) ≡ find (λ n. ltb last n && u n) xs
        → find u (cond b (x ∷ filter (range_contains nat_cmp (Excluded last) Unbounded) xs) (filter (range_contains nat_cmp (Excluded last) Unbounded) xs)) ≡ cond (c && u x) (Some x) (find (λ n. ltb last n && u n) xs)
    by_test true true is more = ap (cond (u x) (Some x)) more
    by_test true false is more = absurd (true≢false is)
    by_test false true is more = absurd (false≢true is)
    by_test false false is more = more

pub above_in : (u : ℕ → Bool) (ready range : List ℕ) (last : ℕ) → range ≡ filter (range_contains nat_cmp (Excluded last) Unbounded) ready → find u range ≡ find (λ n. ltb last n && u n) ready
above_in u ready range last between = ap (find u) between ∙ find_above u last ready

-- the first of a set
pub first_is : (r : Option (Bor ℕ)) (xs : List ℕ) → IfSome r (λ k. slice_get xs 0 ≡ Some k.now) → (0 < length xs → IsSome r) → option_copied r ≡ first_of xs
first_is None [] first there = refl
first_is None (x ∷ xs) first there = absurd (false≢true (there (omega arith)))
first_is (Some k) [] first there = cc
first_is (Some k) (x ∷ xs) first there = sym first

-- ---- one more is ready, or there is more room

adds : (b c d : Bool) → d ≡ cond b true c → c ≡ true → d ≡ true
adds true c d is h = is
adds false c d is h = is ∙ h

-- one more pid is listed
abbrev pub PutsOne : ℕ → List ℕ → List ℕ → Type 0
PutsOne n old more = (q : ℕ) → list_any (at_key q) more ≡ cond (at_key n q) true (list_any (at_key q) old)

pub puts_more : (n : ℕ) (old more : List ℕ) → PutsOne n old more → (q : ℕ) → list_any (at_key q) old ≡ true → list_any (at_key q) more ≡ true
puts_more n old more puts q h = adds (at_key n q) (list_any (at_key q) old) (list_any (at_key q) more) (puts q) h

pub ready_put : (duty : DutyView) (slots : Slab Held) (keys : List (ℕ × ℕ)) (n : ℕ) (ready more asking : List ℕ) → PutsOne n ready more → IsKept duty slots keys ready asking → IsKept duty slots keys more asking
ready_put duty slots keys n ready more asking puts kept = listed_more duty slots keys ready more asking asking (puts_more n ready more puts) (λ q h. h) kept

pub asking_put : (duty : DutyView) (slots : Slab Held) (keys : List (ℕ × ℕ)) (n : ℕ) (ready asking more : List ℕ) → PutsOne n asking more → IsKept duty slots keys ready asking → IsKept duty slots keys ready more
asking_put duty slots keys n ready asking more puts kept = listed_more duty slots keys ready ready asking more (λ q h. h) (puts_more n asking more puts) kept

pub more_room : (duty : DutyView) (slots new : Slab Held) (keys : List (ℕ × ℕ)) (ready asking : List ℕ) → new.slots ≡ slots.slots → IsKept duty slots keys ready asking → IsKept duty new keys ready asking
more_room duty slots new keys ready asking same kept = record { ordered = kept.ordered; apart = kept.apart; each = all_more (IsSlot duty slots ready asking) (IsSlot duty new ready asking) each keys kept.each }
  where
    each : (e : ℕ × ℕ) → IsSlot duty slots ready asking e → IsSlot duty new ready asking e
    each e s =
        let at : get new e.1 ≡ get slots e.1 = ap (λ l. slice_index_or l e.1 None) same in
        record { filled = ap is_some at ∙ s.filled; able = λ p there steps. s.able p (sym at ∙ there) steps; lacks = λ p there some. s.lacks p (sym at ∙ there) some }
