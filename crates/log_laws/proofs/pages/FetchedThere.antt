-- A process of which a page was fetched is in the kernel without failures, so it is not born by the next entry.
use Rattle.std.proofs.Common.{◌≡◌, ℕ, refl, sym, ◌∙◌, List, [], ◌∷◌, ◌++◌, Bool, true, false, cond, ◌||◌, Option, Some, None, is_some, true≢false}
use Rattle.t32_base.specs.declared.process.Pid.{Pid}
use Rattle.sys_text.specs.declared.system.System.{System}
use Rattle.proc_state.specs.State.{ProcState}
use Rattle.bus_msg.specs.declared.entry.Entry.{Entry}
use Rattle.bus_msg.specs.PlacedAfter.{what}
use Rattle.cert_sched.specs.Schedule.{process_after}
use Rattle.cert_sched.specs.Told.{told}
use Rattle.cert_sched.specs.Deeds.{is_birth_of}
use Rattle.cert_sched.specs.Moved.{any_since_moved, is_fetch}
use Rattle.cert_sched.specs.Legal.{IsLegalBy, Stands}
use Rattle.cert_sched.proofs.BornLaws.{there_not_born}
use Rattle.cert_sched.proofs.Induction.{legal_induction}
use Rattle.log_laws.specs.pages.Next.{moves_next}
use Rattle.log_laws.proofs.pages.OneEntry.{any_since-snoc}
use Rattle.log_laws.proofs.pages.PagesStay.{paged_there, there_stays}
use Rattle.log_laws.proofs.pages.Waiting.{fetch_holds, fetch_is}

-- ---- a page was fetched

abbrev IsThere : System → List Entry → Pid → Type 0
IsThere system log p = is_some (process_after system log p) ≡ true

module _ (system : System) (log : List Entry) (e : Entry) (p : Pid) (i : ℕ) (stands : Stands system log e) (before : any_since_moved system log p (is_fetch p i) ≡ true → IsThere system log p) where
  -- it was before, or is now
  was_there : (m f now : Bool) → any_since_moved system log p (is_fetch p i) ≡ f → is_fetch p i (what e) ≡ now → cond m false (f || now) ≡ true → IsThere system log p
  was_there true f now fetched asks seen = absurd (true≢false (sym seen))
  was_there false true now fetched asks seen = before fetched
  was_there false false true fetched asks seen = let is = fetch_is (what e) p i asks in paged_there system log p i (fetch_holds system log e p i stands is).within
  was_there false false false fetched asks seen = absurd (true≢false (sym seen))

  earlier_there : any_since_moved system (log ++ e ∷ []) p (is_fetch p i) ≡ true → IsThere system log p
  earlier_there seen = was_there (moves_next system log e p) (any_since_moved system log p (is_fetch p i)) (is_fetch p i (what e)) refl refl (sym (any_since-snoc system log e p (is_fetch p i)) ∙ seen)

-- its process is there
pub fetched_there : (system : System) (log : List Entry) (p : Pid) (i : ℕ) → IsLegalBy Stands system log → any_since_moved system log p (is_fetch p i) ≡ true → IsThere system log p
unfolding told
fetched_there system log p i legal =
    legal_induction Stands system (λ log. any_since_moved system log p (is_fetch p i) ≡ true → IsThere system log p) (λ seen. absurd (true≢false (sym seen)))
    (λ log e before stands seen. there_stays system log e p (earlier_there system log e p i stands before seen) stands.applies) log legal

-- and was there before the last entry, which does not bear it
pub fetched_unborn : (system : System) (log : List Entry) (e : Entry) (p : Pid) (i : ℕ) → IsLegalBy Stands system log → Stands system log e → any_since_moved system (log ++ e ∷ []) p (is_fetch p i) ≡ true → is_birth_of p (what e) ≡ false
fetched_unborn system log e p i legal stands seen = by_process (process_after system log p) refl (earlier_there system log e p i stands (fetched_there system log p i legal) seen)
  where
    by_process : (o : Option ProcState) → process_after system log p ≡ o → is_some o ≡ true → is_birth_of p (what e) ≡ false
    by_process None here some = absurd (true≢false (sym some))
    by_process (Some was) here some = there_not_born system log e p was stands.applies here
