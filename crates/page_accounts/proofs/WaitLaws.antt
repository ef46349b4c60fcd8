-- In a legal log each fetch that waits is of a page that the committed account has.
use Rattle.std.proofs.Common.{◌≡◌, ℕ, Bool, true, false, ◌&&◌, ◌||◌, eq-eqb, List, [], ◌∷◌, refl, sym, ◌∙◌, ap, subst, Option, Some, None, is_some, true≢false}
use Rattle.std.specs.Prelude.{IfSome, slice_get}
use Rattle.std.specs.List.{list_any, AllByRecursion}
use Rattle.t32_base.specs.declared.process.Pid.{Pid}
use Rattle.sys_text.specs.declared.system.System.{System}
use Rattle.sys_text.specs.Valid.{is_system}
use Rattle.proc_state.specs.State.{ProcState}
use Rattle.bus_msg.specs.declared.entry.Entry.{Entry}
use Rattle.cert_sched.specs.Schedule.{process_after}
use Rattle.cert_sched.specs.Account.{Account, account_after, page_in}
use Rattle.cert_sched.specs.Moved.{waiting_fetches}
use Rattle.cert_sched.specs.Legal.{IsLegalBy, Stands}
use Rattle.cert_sched.specs.Simulation.{IsUnended}
use Rattle.cert_sched.proofs.ThereLaws.{unended_there}
use Rattle.cert_sched.proofs.OpenLaws.{unended_open}
use Rattle.cert_sched.proofs.RollLaws.{all_roll}
use Rattle.page_server.specs.Account.{PagerState}
use Rattle.log_laws.specs.pages.Waited.{is_wait_for, is_waited}
use Rattle.log_laws.proofs.pages.BornSums.{itself}
use Rattle.log_laws.proofs.pages.StartPages.{kept_pages, waited_unended}
use Rattle.log_laws.proofs.pages.Waiting.{waited_lacks}
use Rattle.page_accounts.specs.Answering.{IsKept, earliest}
use Rattle.page_accounts.specs.Keeps.{KeepsAccounts}

-- the committed account of its process has the page
abbrev IsCommitted : System → List Entry → Pid × ℕ → Type 0
IsCommitted system log f = is_some (page_in (account_after system log f.0).kept f.1) ≡ true

-- who waits for a page has not ended and was moved with a state, so each of its pages is kept, as it is at its start
waited_kept : (system : System) (log : List Entry) (p : Pid) (i : ℕ) → is_system system ≡ true → IsLegalBy Stands system log → is_waited system log p i ≡ true → IsCommitted system log (p, i)
waited_kept system log p i valid legal waited = by_process (process_after system log p) refl (unended_there Stands itself system log p valid legal unended)
  where
    unended : IsUnended system log p
    unended = waited_unended system log p i legal waited

    by_process : (o : Option ProcState) → process_after system log p ≡ o → is_some o ≡ true → IsCommitted system log (p, i)
    by_process None there is = absurd (true≢false (sym is))
    by_process (Some now) there is =
        let rolls = (all_roll Stands itself system log valid legal).rolls p now there (unended_open Stands itself system log p valid legal unended now there) in
        let lacks = waited_lacks system log p i legal waited in
        ap is_some (kept_pages system log p rolls.start i valid legal lacks.moved unended rolls.started lacks.within)

-- what holds of each that is among some holds of all of them
each_of : (P : Pid × ℕ → Type 0) (fs : List (Pid × ℕ)) → ((f : Pid × ℕ) → list_any (is_wait_for f.0 f.1) fs ≡ true → P f) → AllByRecursion P fs
each_of P [] each = tt
each_of P (f ∷ fs) each = (each f here, each_of P fs (λ g among. each g (later g among)))
  where
    here : list_any (is_wait_for f.0 f.1) (f ∷ fs) ≡ true
    here = ap (λ b. b || list_any (is_wait_for f.0 f.1) fs) (λ i. eq-eqb (f.0).0 (f.0).0 refl i && eq-eqb f.1 f.1 refl i)

    or_true : (b : Bool) → (b || true) ≡ true
    or_true true = refl
    or_true false = refl

    later : (g : Pid × ℕ) → list_any (is_wait_for g.0 g.1) fs ≡ true → list_any (is_wait_for g.0 g.1) (f ∷ fs) ≡ true
    later g among = ap (λ b. is_wait_for g.0 g.1 f || b) among ∙ or_true (is_wait_for g.0 g.1 f)

pub waits_are_kept : (system : System) (log : List Entry) → is_system system ≡ true → IsLegalBy Stands system log → AllByRecursion (λ (f : Pid × ℕ). is_some (page_in (account_after system log f.0).kept f.1) ≡ true) (waiting_fetches system log)
waits_are_kept system log valid legal = each_of (IsCommitted system log) (waiting_fetches system log) (λ f waited. waited_kept system log f.0 f.1 valid legal waited)

-- so the earliest fetch of a page server that keeps the accounts of the log is of such a page
pub earliest_is_kept : (system : System) (log : List Entry) (state : PagerState) → is_system system ≡ true → IsLegalBy Stands system log → KeepsAccounts system log state → IfSome (earliest state) (IsKept state)
earliest_is_kept system log state valid legal keeps = by_fetches state.fetches (subst (AllByRecursion (λ (f : Pid × ℕ). is_some (page_in (account_after system log f.0).kept f.1) ≡ true)) (sym keeps.waits) (waits_are_kept system log valid legal))
  where
    by_fetches : (fs : List (Pid × ℕ)) → AllByRecursion (λ (f : Pid × ℕ). is_some (page_in (account_after system log f.0).kept f.1) ≡ true) fs → IfSome (slice_get fs 0) (IsKept state)
    by_fetches [] all = tt
    by_fetches (f ∷ fs) all = ap (λ (a : Account). is_some (page_in a.kept f.1)) (keeps.accounts f.0) ∙ all.0
