-- Which pages are to be asked for: the lowest page of the lowest process first.
use Rattle.std.proofs.Common.{◌≡◌, ℕ, suc, ◌+◌, Bool, true, false, cond, not, ◌||◌, ◌&&◌, eqb, eqb-true, ltb, List, [], ◌∷◌, length, refl, sym, ap, subst, ◌∙◌, arith, Option, Some, None, is_some, is_none, true≢false}
use Rattle.std.specs.Prelude.{Result, Ok, Err, IfSome, All}
use Rattle.std.specs.Borrow.{Bor}
use Rattle.std.specs.Option.{option_copied}
use Rattle.std.specs.Ordering.{is_gt, nat_cmp}
use Rattle.std.specs.BTreeMap.Range.{IsLeBy}
use Rattle.std.specs.List.{list_any, AllByRecursion}
use Rattle.std.specs.Map.{lookup}
use Rattle.std.proofs.lemmas.Bool.Decides.{nat_tests}
use Rattle.std.proofs.lemmas.Bool.{false≢true}
use Rattle.std.proofs.lemmas.Option.{same_Some}
use Rattle.slab.specs.Slab.{Slab, get, Updates}
use Rattle.t32_base.specs.declared.process.Pid.{Pid}
use Rattle.t32_base.specs.declared.process.ClusterNo.{ClusterNo}
use Rattle.t32_base.specs.declared.streams.NoMemory.{NoMemory}
use Rattle.plain_kernel.specs.Maps.{at_key, pid_of}
use Rattle.cert_sched.specs.Parts.{first_of}
use Rattle.quanta.specs.declared.limits.Limits.{Limits}
use Rattle.residents.specs.Duty.{DutyView, is_able}
use Rattle.residents.specs.declared.quantum.Quantum.{Quantum}
use Rattle.residents.specs.declared.quantum.Quantum.TheVariants.{Moved, Sent, Synced, Renewed, Stuck, Forks}
use Rattle.residents.specs.Quantum.{RunsQuantum, RunsTo}
use Rattle.residents.specs.Residents.{AsksOf, AsksPage, lacks_none_at}
use Rattle.residents.specs.Changed.{with_changed}
use Rattle.residents.specs.Slots.{in_slot, stands_in, IsKept, IsSlot}
use Rattle.residents.specs.Held.{Held, Runs, Rolls, Waits, asked_held, page_lacked}
use Rattle.residents.specs.Asking.{AsksNext, any_lacks, is_lowest_lacking}
use Rattle.residents.proofs.Slots.{at_key_is, one_key, passes_there, process_there, written}
use Rattle.residents.proofs.Kept.{first_some, written_back}

-- ---- a process that is listed

-- what is in the slot of a pid is ready where it can move
pub able_listed : (duty : DutyView) (slots : Slab Held) (ready asking : List ℕ) (n key : ℕ) (was : Held) (es : List (ℕ × ℕ)) → lookup (at_key n) es ≡ Some key → get slots key ≡ Some was → AllByRecursion (IsSlot duty slots ready asking) es → is_able duty (pid_of n, was) ≡ true
    → list_any (at_key n) ready ≡ true
able_listed duty slots ready asking n key was [] found there kept acts = cc
able_listed duty slots ready asking n key was (e ∷ es) found there kept acts = by_test (at_key n e.0) (at_key_is n e.0) found (λ found. able_listed duty slots ready asking n key was es found there kept.1 acts)
  where
    by_test : (b : Bool) → b ≡ eqb e.0 n → cond b (Some e.1) (lookup (at_key n) es) ≡ Some key → (lookup (at_key n) es ≡ Some key → list_any (at_key n) ready ≡ true) → list_any (at_key n) ready ≡ true
    by_test true is found more =
        let same : e.0 ≡ n = eqb-true e.0 n (sym is) in
        ap (λ m. list_any (at_key m) ready) (sym same) ∙ (kept.0).able was (ap (get slots) (same_Some e.1 key found) ∙ there) (ap (λ m. is_able duty (pid_of m, was)) same ∙ acts)
    by_test false is found more = more found

-- and asks where it has a page to ask for
pub lacks_listed : (duty : DutyView) (slots : Slab Held) (ready asking : List ℕ) (n key : ℕ) (was : Held) (es : List (ℕ × ℕ)) → lookup (at_key n) es ≡ Some key → get slots key ≡ Some was → AllByRecursion (IsSlot duty slots ready asking) es → is_some (page_lacked was) ≡ true
    → list_any (at_key n) asking ≡ true
lacks_listed duty slots ready asking n key was [] found there kept some = cc
lacks_listed duty slots ready asking n key was (e ∷ es) found there kept some = by_test (at_key n e.0) (at_key_is n e.0) found (λ found. lacks_listed duty slots ready asking n key was es found there kept.1 some)
  where
    by_test : (b : Bool) → b ≡ eqb e.0 n → cond b (Some e.1) (lookup (at_key n) es) ≡ Some key → (lookup (at_key n) es ≡ Some key → list_any (at_key n) asking ≡ true) → list_any (at_key n) asking ≡ true
    by_test true is found more = ap (λ m. list_any (at_key m) asking) (sym (eqb-true e.0 n (sym is))) ∙ (kept.0).lacks was (ap (get slots) (same_Some e.1 key found) ∙ there) some
    by_test false is found more = more found

-- ---- after a quantum

not_moved : (m : ℕ) (between new : Held) → RunsTo m between new → is_some (page_lacked new) ≡ true → ⊥
not_moved m (Runs p) (Runs q) runs some = false≢true some
not_moved m (Rolls p counts births) new runs some = false≢true (ap (λ (h : Held). is_some (page_lacked h)) (sym runs.1) ∙ some)
not_moved m between new runs some = runs

-- one that lacks a page after a quantum lacked it before
pub ran_lacks : (limits : Limits) (by : ClusterNo) (childless : Bool) (made : ℕ) (was now : Held) (r : Result Quantum NoMemory) → RunsQuantum limits by 64 childless made was r now → is_some (page_lacked now) ≡ true → is_some (page_lacked was) ≡ true
ran_lacks limits by childless made was now (Ok Moved) ran some = absurd (not_moved ran.silent was now ran.runs some)
ran_lacks limits by childless made was now (Ok (Sent sending)) ran some = absurd (false≢true (ap (λ (h : Held). is_some (page_lacked h)) (sym (ran.0).new_is) ∙ some))
ran_lacks limits by childless made was now (Ok (Synced posts)) ran some = absurd (false≢true (ap (λ (h : Held). is_some (page_lacked h)) (sym (ran.1).new_is) ∙ some))
ran_lacks limits by childless made was now (Ok (Renewed posts)) ran some = absurd ran
ran_lacks limits by childless made was now (Ok (Forks forking)) ran some = absurd (false≢true (ap (λ (h : Held). is_some (page_lacked h)) (sym ran.new_is) ∙ some))
ran_lacks limits by childless made was now (Ok Stuck) ran some = ap (λ (h : Held). is_some (page_lacked h)) (sym ran.2) ∙ some
ran_lacks limits by childless made was now (Err fault) ran some = ap (λ (h : Held). is_some (page_lacked h)) (sym ran.1) ∙ some

-- ---- a page is asked for

some_test : (b : Bool) (n : ℕ) → is_some (cond b (Some n) None) ≡ b
some_test true n = refl
some_test false n = refl

less_before : (m n : ℕ) → ltb (m + 1) n ≡ true → ltb m n ≡ true
less_before m n less = grind (arith, nat_tests)

-- one that lacks a page after it asked for one lacked one before
asked_lacks : (h : Held) → is_some (page_lacked (asked_held h)) ≡ true → is_some (page_lacked h) ≡ true
asked_lacks (Waits w) some =
    some_test (ltb w.asked (length w.come)) w.asked ∙ less_before w.asked (length w.come) (sym (some_test (ltb (w.asked + 1) (length w.come)) (w.asked + 1)) ∙ some)
asked_lacks _ some = some

-- and it moves no more than before
asked_acts : (duty : DutyView) (p : Pid) (h : Held) → is_able duty (p, asked_held h) ≡ is_able duty (p, h)
asked_acts duty p (Runs q) = refl
asked_acts duty p _ = refl

pub after_ask_lacks : (was now : Held) (r : Option ℕ) → now ≡ cond (is_some r) (asked_held was) was → is_some (page_lacked now) ≡ true → is_some (page_lacked was) ≡ true
after_ask_lacks was now None is some = ap (λ (h : Held). is_some (page_lacked h)) (sym is) ∙ some
after_ask_lacks was now (Some i) is some = asked_lacks was (ap (λ (h : Held). is_some (page_lacked h)) (sym is) ∙ some)

pub after_ask_acts : (duty : DutyView) (p : Pid) (was now : Held) (r : Option ℕ) → now ≡ cond (is_some r) (asked_held was) was → is_able duty (p, now) ≡ true → is_able duty (p, was) ≡ true
after_ask_acts duty p was now None is acts = ap (λ (h : Held). is_able duty (p, h)) (sym is) ∙ acts
after_ask_acts duty p was now (Some i) is acts = sym (asked_acts duty p was) ∙ ap (λ (h : Held). is_able duty (p, h)) (sym is) ∙ acts

-- what an ask of the process with a pid makes of those that are here
module _ (duty : DutyView) (slots new : Slab Held) (n key : ℕ) (keys : List (ℕ × ℕ)) (ready asking : List ℕ) (was now : Held) (old : List (Pid × Held)) (kept : IsKept duty slots keys ready asking) (found : lookup (at_key n) keys ≡ Some key)
    (there : get slots key ≡ Some was) (updates : Updates slots new key (Some now)) (same : stands_in slots keys ≡ old) where
  none_asked : page_lacked was ≡ None → lacks_none_at (pid_of n) (stands_in slots keys) ≡ true
  none_asked none = passes_there (λ h. is_none (page_lacked h)) slots n key was keys (one_key n key keys kept.ordered kept.apart found) there (ap is_none none)

  pub asked_of : (r : Option ℕ) → r ≡ page_lacked was → now ≡ cond (is_some r) (asked_held was) was → AsksOf (pid_of n) old r (stands_in new keys)
  asked_of None lacks is = (ap (lacks_none_at (pid_of n)) (sym same) ∙ none_asked (sym lacks), written_back slots new key was now keys there updates is ∙ same)
  asked_of (Some i) lacks is =
      subst (λ old. AsksPage (pid_of n) old i (stands_in new keys)) same
      (record {
        was = was;
        there = process_there slots n key was keys found there;
        lacks = sym lacks;
        here =
            written slots new n key was now (λ e. (pid_of n, now)) keys (one_key n key keys kept.ordered kept.apart found) there updates refl
            ∙ ap (λ (h : Held). with_changed (pid_of n) h (stands_in slots keys)) is;
      })

-- ---- the lowest that asks

-- where none asks none lacks a page
none_lacks : (duty : DutyView) (slots : Slab Held) (ready : List ℕ) (es : List (ℕ × ℕ)) → AllByRecursion (IsSlot duty slots ready []) es → any_lacks (stands_in slots es) ≡ false
none_lacks duty slots ready [] kept = refl
none_lacks duty slots ready (e ∷ es) kept = in_front (get slots e.1) (λ p is. (kept.0).lacks p is) (none_lacks duty slots ready es kept.1)
  where
    without : (b : Bool) → (b ≡ true → false ≡ true) → b ≡ false
    without true lacks = absurd (false≢true (lacks refl))
    without false lacks = refl

    in_front : (o : Option Held) → ((p : Held) → o ≡ Some p → is_some (page_lacked p) ≡ true → false ≡ true) → any_lacks (stands_in slots es) ≡ false → any_lacks (in_slot (pid_of e.0) o (stands_in slots es)) ≡ false
    in_front None lacks more = more
    in_front (Some p) lacks more = ap (λ b. b || any_lacks (stands_in slots es)) (without (is_some (page_lacked p)) (lacks p refl)) ∙ more

pub none_asks : (duty : DutyView) (slots : Slab Held) (keys : List (ℕ × ℕ)) (ready asking : List ℕ) → IsKept duty slots keys ready asking → first_of asking ≡ None → any_lacks (stands_in slots keys) ≡ false
none_asks duty slots keys ready asking kept none = none_lacks duty slots ready keys (subst (λ asking. AllByRecursion (IsSlot duty slots ready asking) keys) (first_some asking none) kept.each)

-- none below a number lacks a page where each number of those that ask is at least it
lowest_each : (duty : DutyView) (slots : Slab Held) (ready asking : List ℕ) (n : ℕ) (es : List (ℕ × ℕ)) → ((q : ℕ) → list_any (at_key q) asking ≡ true → ltb q n ≡ false) → AllByRecursion (IsSlot duty slots ready asking) es
    → is_lowest_lacking (pid_of n) (stands_in slots es) ≡ true
lowest_each duty slots ready asking n [] least kept = refl
lowest_each duty slots ready asking n (e ∷ es) least kept = in_front (get slots e.1) (λ p is. (kept.0).lacks p is) (lowest_each duty slots ready asking n es least kept.1)
  where
    passes : (o : Option ℕ) (b : Bool) → ltb e.0 n ≡ b → (is_some o ≡ true → list_any (at_key e.0) asking ≡ true) → (not b || is_none o) ≡ true
    passes None true is lacks = refl
    passes None false is lacks = refl
    passes (Some i) true is lacks = absurd (true≢false (sym is ∙ least e.0 (lacks refl)))
    passes (Some i) false is lacks = refl

    in_front : (o : Option Held) → ((p : Held) → o ≡ Some p → is_some (page_lacked p) ≡ true → list_any (at_key e.0) asking ≡ true) → is_lowest_lacking (pid_of n) (stands_in slots es) ≡ true
        → is_lowest_lacking (pid_of n) (in_slot (pid_of e.0) o (stands_in slots es)) ≡ true
    in_front None lacks more = more
    in_front (Some p) lacks more = ap (λ b. b && is_lowest_lacking (pid_of n) (stands_in slots es)) (passes (page_lacked p) (ltb e.0 n) refl (lacks p refl)) ∙ more

-- no number of a list is below one that is at most each
least_of : (n : ℕ) (xs : List ℕ) → All (IsLeBy nat_cmp n) xs → (q : ℕ) → list_any (at_key q) xs ≡ true → ltb q n ≡ false
least_of n [] least q there = cc
least_of n (x ∷ xs) least q there = by_test (at_key q x) refl there (least_of n xs (λ k d within. least (suc k) d (omega (arith, within))) q)
  where
    not_above : (x : ℕ) → is_gt (nat_cmp n x) ≡ false → ltb x n ≡ false
    not_above x above = grind (arith, nat_tests)

    by_test : (b : Bool) → at_key q x ≡ b → (b || list_any (at_key q) xs) ≡ true → (list_any (at_key q) xs ≡ true → ltb q n ≡ false) → ltb q n ≡ false
    by_test true is there more = ap (λ m. ltb m n) (sym (eqb-true x q (sym (at_key_is q x) ∙ is))) ∙ not_above x (least 0 0 (omega arith))
    by_test false is there more = more there

first_least : (r : Option (Bor ℕ)) (xs : List ℕ) (n : ℕ) → IfSome r (λ k. All (IsLeBy nat_cmp k.now) xs) → option_copied r ≡ Some n → All (IsLeBy nat_cmp n) xs
first_least None xs n least is = cc
first_least (Some k) xs n least is = subst (λ m. All (IsLeBy nat_cmp m) xs) (same_Some k.now n is) least

pub lowest_asks : (duty : DutyView) (slots : Slab Held) (keys : List (ℕ × ℕ)) (ready asking : List ℕ) (first : Option (Bor ℕ)) (n : ℕ) → IsKept duty slots keys ready asking → IfSome first (λ k. All (IsLeBy nat_cmp k.now) asking) → option_copied first ≡ Some n
    → is_lowest_lacking (pid_of n) (stands_in slots keys) ≡ true
lowest_asks duty slots keys ready asking first n kept least is = lowest_each duty slots ready asking n keys (least_of n asking (first_least first asking n least is)) kept.each

-- ---- the next page

-- the page that the lowest of those that ask lacks is the next one
pub next_asked : (n index : ℕ) (was old new : List (Pid × Held)) → old ≡ was → is_lowest_lacking (pid_of n) old ≡ true → AsksPage (pid_of n) old index new → AsksNext was new (pid_of n) index
next_asked n index was old new same lowest asks =
    subst (λ hs. AsksNext hs new (pid_of n) index) same (record { was = asks.was; there = asks.there; lacks = asks.lacks; lowest = lowest; new_is = asks.here })
