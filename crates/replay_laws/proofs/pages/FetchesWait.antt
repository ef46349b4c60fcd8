-- Where a process lacks a page and has asked for all, a fetch waits.
use Rattle.std.proofs.Common.{◌≡◌, ◌≢◌, ℕ, suc, ◌<◌, refl, sym, ◌∙◌, ap, arith, List, [], ◌∷◌, length, Bool, true, false, cond, Option, Some, None, is_some, slice_get, true≢false}
use Rattle.std.specs.Prelude.{nat_lt}
use Rattle.std.specs.List.{list_all, list_any}
use Rattle.std.proofs.lemmas.Bool.Decides.{nat_tests}
use Rattle.std.proofs.lemmas.Option.{same_Some}
use Rattle.t32_base.specs.declared.process.Pid.{Pid}
use Rattle.sys_text.specs.declared.system.System.{System}
use Rattle.bus_msg.specs.declared.entry.Entry.{Entry}
use Rattle.cert_sched.specs.Account.{account_after, page_in}
use Rattle.cert_sched.specs.Legal.{IsLegalBy, Stands}
use Rattle.cert_sched.specs.Moved.{any_since_moved, is_fetch, is_page_is, waiting_fetches}
use Rattle.cert_sched.specs.Simulation.{IsUnended}
use Rattle.log_laws.specs.pages.Waited.{is_wait_for}
use Rattle.log_laws.proofs.pages.NothingLeft.{fetched_waits}
use Rattle.page_waits.specs.Waiting.{WaitingState, is_whole, next_page}
use Rattle.replay_laws.specs.pages.Waits.{WaitsAs, none_queued, page_come}
use Rattle.replay_laws.proofs.pages.Asks.{in_log}
use Rattle.replay_laws.proofs.pages.KeptCame.{came_kept}

-- a page that has not come
record Missing (come : List (Option (List ℕ))) : Type 0 where
  pub index : ℕ
  pub within : index < length come
  pub none : slice_get come index ≡ Some None

missing_one : (come : List (Option (List ℕ))) → list_all is_some come ≡ false → Missing come
missing_one [] lacks = absurd (true≢false lacks)
missing_one (None ∷ come) lacks = record { index = 0; within = omega arith; none = refl }
missing_one (Some page ∷ come) lacks =
    let m = missing_one come lacks in
    let within = m.within in
    record { index = suc m.index; within = omega (arith, within); none = m.none }

-- all were asked for
all_asked : (w : WaitingState) (i : ℕ) → next_page w ≡ None → i < length w.come → nat_lt i w.asked ≡ true
all_asked w i none within = by_test (nat_lt w.asked (length w.come)) refl none
  where
    past : (asked many : ℕ) → nat_lt asked many ≡ false → i < many → nat_lt i asked ≡ true
    past asked many less within = grind (arith, nat_tests)

    by_test : (b : Bool) → nat_lt w.asked (length w.come) ≡ b → cond b (Some w.asked) None ≡ None → nat_lt i w.asked ≡ true
    by_test true less e = cc
    by_test false less e = past w.asked (length w.come) less within

-- what is not there was not seen, where what was seen is there
not_seen : {X : Type 0} (b : Bool) (o : Option X) → cond b o None ≡ None → (b ≡ true → is_some o ≡ true) → b ≡ false
not_seen true o none there = absurd (true≢false (sym (there refl) ∙ ap is_some none))
not_seen false o none there = refl

pub a_fetch_waits : (system : System) (log : List Entry) (p : Pid) (w : WaitingState) → IsLegalBy Stands system log → IsUnended system log p → WaitsAs system log p none_queued w → next_page w ≡ None → is_whole w ≡ false → waiting_fetches system log ≢ []
a_fetch_waits system log p w legal unended waits none lacks =
    let m = missing_one w.come lacks in
    let i = m.index in
    let not_come : any_since_moved system log p (is_page_is p i) ≡ false =
    not_seen (any_since_moved system log p (is_page_is p i)) (page_in (account_after system log p).kept i)
    (same_Some (page_come system log p i) None (sym (waits.come i m.within) ∙ m.none)) (came_kept system log p i legal unended) in
    let fetched : any_since_moved system log p (is_fetch p i) ≡ true = sym (in_log system log p w waits i m.within) ∙ all_asked w i none m.within in
    λ empty. true≢false (sym (fetched_waits system log p i legal unended fetched not_come) ∙ ap (list_any (is_wait_for p i)) empty)
