-- Where nothing is left, each process that has not ended has its pages: what was fetched came or is waited for.
use Rattle.std.proofs.Common.{◌≡◌, ℕ, refl, sym, ◌∙◌, ap, arith, List, [], ◌∷◌, ◌++◌, length, Bool, true, false, cond, not, ◌&&◌, ◌||◌, is_some, true≢false}
use Rattle.std.specs.Prelude.{count_by, sum_by}
use Rattle.std.specs.List.{list_any, list_all, range_with_len}
use Rattle.std.proofs.lemmas.List.Sums.{sum_by-cons}
use Rattle.t32_base.specs.declared.process.Pid.{Pid}
use Rattle.sys_text.specs.declared.system.System.{System}
use Rattle.bus_msg.specs.declared.entry.Entry.{Entry}
use Rattle.bus_msg.specs.declared.placed.Placed.{Placed}
use Rattle.bus_msg.specs.Places.{same_pid, unended_at, unended_in}
use Rattle.bus_msg.specs.PlacedAfter.{what}
use Rattle.cert_sched.specs.Schedule.{placement}
use Rattle.cert_sched.specs.Told.{told}
use Rattle.cert_sched.specs.Account.{is_exit_of}
use Rattle.cert_sched.specs.Moved.{any_since_moved, moved_with_state, waiting_fetches, is_fetch, is_page_is}
use Rattle.cert_sched.specs.Rules.{has_its_pages}
use Rattle.cert_sched.specs.Steps.{page_count}
use Rattle.cert_sched.specs.Legal.{IsLegalBy, Stands}
use Rattle.cert_sched.specs.Simulation.{IsUnended}
use Rattle.cert_sched.proofs.LogLaws.{IsLegal-snoc, placement-snoc}
use Rattle.cert_sched.proofs.Induction.{legal_induction}
use Rattle.cert_sched.proofs.CameLaws.{same_of}
use Rattle.cert_sched.proofs.StayingUnended.{before_unended}
use Rattle.log_laws.specs.pages.Next.{moves_next, ends_wait_next}
use Rattle.log_laws.specs.pages.Waited.{is_wait_for, is_waited}
use Rattle.log_laws.specs.pages.Left.{is_unasked, unasked_of, unasked, left_of_pages}
use Rattle.log_laws.proofs.pages.OneEntry.{any_since-snoc, is_waited-snoc}
use Rattle.log_laws.proofs.pages.FetchedThere.{fetched_unborn}
use Rattle.log_laws.proofs.pages.Leaving.{one_if, unended_there}

-- ---- what was fetched came or is waited for

abbrev WaitsOrCame : System → List Entry → Pid → ℕ → Type 0
WaitsOrCame system log p i = IsUnended system log p → any_since_moved system log p (is_fetch p i) ≡ true → any_since_moved system log p (is_page_is p i) ≡ false → is_waited system log p i ≡ true

nothing_yet : (system : System) → IsLegalBy Stands system []
unfolding IsLegalBy
nothing_yet system = tt

pub fetched_waits : (system : System) (log : List Entry) (p : Pid) (i : ℕ) → IsLegalBy Stands system log → WaitsOrCame system log p i
unfolding told
fetched_waits system log p i legal = (legal_induction Stands system (λ log. IsLegalBy Stands system log × WaitsOrCame system log p i) (nothing_yet system, λ there seen not_come. absurd (true≢false (sym seen))) (λ log e before stands. (IsLegal-snoc Stands system log e before.0 stands, more log e before.0 before.1 stands)) log legal).1
  where
    more : (log : List Entry) (e : Entry) → IsLegalBy Stands system log → WaitsOrCame system log p i → Stands system log e → WaitsOrCame system (log ++ e ∷ []) p i
    more log e legal before stands there seen not_come =
        is_waited-snoc system log e p i
        ∙ by_tests (moves_next system log e p) (any_since_moved system log p (is_fetch p i)) (is_fetch p i (what e)) (any_since_moved system log p (is_page_is p i)) (is_page_is p i (what e)) refl refl refl refl
        (sym (any_since-snoc system log e p (is_fetch p i)) ∙ seen) (sym (any_since-snoc system log e p (is_page_is p i)) ∙ not_come)
      where
        was : (is_exit_of p (what e) ≡ false) × (is_some (unended_at (placement system log) p) ≡ true)
        was = before_unended (what e) (placement system log) p (fetched_unborn system log e p i legal stands seen) (sym (ap (λ places. is_some (unended_at places p)) (placement-snoc system log e)) ∙ there)

        or_true : (b : Bool) → (b || true) ≡ true
        or_true true = refl
        or_true false = refl

        by_tests : (m f asks c page : Bool) → moves_next system log e p ≡ m → any_since_moved system log p (is_fetch p i) ≡ f → any_since_moved system log p (is_page_is p i) ≡ c → is_page_is p i (what e) ≡ page
            → cond m false (f || asks) ≡ true → cond m false (c || page) ≡ false → ((is_waited system log p i && not (ends_wait_next system log e p i)) || asks) ≡ true
        by_tests true f asks c page moves fetched come here s n = absurd (true≢false (sym s))
        by_tests false f true c page moves fetched come here s n = or_true (is_waited system log p i && not (ends_wait_next system log e p i))
        by_tests false false false c page moves fetched come here s n = absurd (true≢false (sym s))
        by_tests false true false true page moves fetched come here s n = absurd (true≢false n)
        by_tests false true false false true moves fetched come here s n = absurd (true≢false n)
        by_tests false true false false false moves fetched come here s n =
            let ends : ends_wait_next system log e p i ≡ false = (λ k. here k || was.0 k || moves k) in
            let waited = before was.1 fetched come in
            (λ k. (waited k && not (ends k)) || false)

-- ---- nothing left

sum_none : {X : Type 0} (f : X → ℕ) (t : X → Bool) (n : ℕ) → ((x : X) → t x ≡ true → f x ≡ n) → (xs : List X) → list_any t xs ≡ true → sum_by f xs ≡ 0 → n ≡ 0
sum_none f t n at [] there none = absurd (true≢false (sym there))
sum_none f t n at (x ∷ xs) there none =
    let first : f x ≡ 0 = omega (arith, sum_by-cons f x xs, none) in
    let rest : sum_by f xs ≡ 0 = omega (arith, sum_by-cons f x xs, none) in
    by_test (t x) refl there first (λ h. sum_none f t n at xs h rest)
  where
    by_test : (b : Bool) → t x ≡ b → (b || list_any t xs) ≡ true → f x ≡ 0 → (list_any t xs ≡ true → n ≡ 0) → n ≡ 0
    by_test true is there first more = sym (at x is) ∙ first
    by_test false is there first more = more there

-- where none passes, each passes the other test
none_all : (t u : ℕ → Bool) → ((i : ℕ) → t i ≡ false → u i ≡ true) → (xs : List ℕ) → count_by t xs ≡ 0 → list_all u xs ≡ true
none_all t u other [] none = refl
none_all t u other (i ∷ xs) none =
    let rest : count_by t xs ≡ 0 = omega (arith, sum_by-cons (λ j. one_if (t j)) i xs, none) in
    let first : one_if (t i) ≡ 0 = omega (arith, sum_by-cons (λ j. one_if (t j)) i xs, none) in
    (λ k. other i (by_test (t i) first) k && none_all t u other xs rest k)
  where
    by_test : (b : Bool) → one_if b ≡ 0 → b ≡ false
    by_test true e = absurd (omega (arith, e))
    by_test false e = refl

no_waits : (fs : List (Pid × ℕ)) (t : Pid × ℕ → Bool) → length fs ≡ 0 → list_any t fs ≡ false
no_waits [] t none = refl
no_waits (f ∷ fs) t none = absurd (omega (arith, none))

-- where nothing is left, a process that has not ended has its pages
pub none_left : (system : System) (log : List Entry) (p : Pid) → IsLegalBy Stands system log → left_of_pages system log ≡ 0 → IsUnended system log p → has_its_pages system log p ≡ true
none_left system log p legal none unended = by_moved (moved_with_state system log p) refl
  where
    asked : unasked system log ≡ 0
    asked = omega (arith, none)

    waits : length (waiting_fetches system log) ≡ 0
    waits = omega (arith, none)

    its : unasked_of system log p ≡ 0
    its = sum_none (λ (q : Placed). unasked_of system log q.pid) (λ (q : Placed). same_pid q.pid p) (unasked_of system log p)
        (λ q same. ap (unasked_of system log) (same_of q.pid p same)) (unended_in (placement system log)) (unended_there p (placement system log).placed unended) asked

    came : (i : ℕ) → is_unasked system log p i ≡ false → any_since_moved system log p (is_page_is p i) ≡ true
    came i seen = by_test (any_since_moved system log p (is_page_is p i)) refl
      where
        not_false : (b : Bool) → not b ≡ false → b ≡ true
        not_false true h = refl
        not_false false h = absurd (true≢false h)

        by_test : (b : Bool) → any_since_moved system log p (is_page_is p i) ≡ b → b ≡ true
        by_test true is = refl
        by_test false is = absurd (true≢false (sym (fetched_waits system log p i legal unended (not_false (any_since_moved system log p (is_fetch p i)) seen) is) ∙ no_waits (waiting_fetches system log) (is_wait_for p i) waits))

    by_moved : (b : Bool) → moved_with_state system log p ≡ b → (not b || list_all (λ i. any_since_moved system log p (is_page_is p i)) (range_with_len 0 (page_count system log p))) ≡ true
    by_moved false is = refl
    by_moved true is =
        none_all (is_unasked system log p) (λ i. any_since_moved system log p (is_page_is p i)) came (range_with_len 0 (page_count system log p))
        (sym (ap (λ b. cond b (count_by (is_unasked system log p) (range_with_len 0 (page_count system log p))) 0) is) ∙ its)
