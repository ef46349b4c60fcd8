-- A process that a crash moved with a state has a state in its record.
use Rattle.std.proofs.Common.{◌≡◌, sym, refl, ◌∙◌, ap, List, [], ◌∷◌, ◌++◌, Bool, true, false, cond, ◌||◌, true≢false}
use Rattle.t32_base.specs.declared.process.Pid.{Pid}
use Rattle.sys_text.specs.declared.system.System.{System}
use Rattle.bus_msg.specs.declared.entry.Entry.{Entry}
use Rattle.cert_sched.specs.Told.{told}
use Rattle.cert_sched.specs.Record.{has_state}
use Rattle.cert_sched.specs.Moved.{moved_with_state}
use Rattle.cert_sched.specs.Legal.{IsLegalBy, Stands}
use Rattle.cert_sched.proofs.RecordLaws.{has_state-snoc}
use Rattle.cert_sched.proofs.Induction.{legal_induction}
use Rattle.log_laws.specs.pages.Next.{moves_next}
use Rattle.log_laws.proofs.pages.OneEntry.{moved_with_state-snoc}

-- a process that was moved with a state has one
pub moved_stated : (system : System) (log : List Entry) (p : Pid) → IsLegalBy Stands system log → moved_with_state system log p ≡ true → has_state system log p ≡ true
unfolding told
moved_stated system log p legal =
    legal_induction Stands system (λ log. moved_with_state system log p ≡ true → has_state system log p ≡ true) at_start more log legal
  where
    at_start : moved_with_state system [] p ≡ true → has_state system [] p ≡ true
    at_start moved = absurd (true≢false (sym moved))

    by_test : (b s m c : Bool) → (m ≡ true → s ≡ true) → cond b s m ≡ true → (s || c) ≡ true
    by_test true true m c before h = refl
    by_test true false m c before h = absurd (true≢false (sym h))
    by_test false s m c before h = ap (λ b. b || c) (before h)

    more : (log : List Entry) (e : Entry) → (moved_with_state system log p ≡ true → has_state system log p ≡ true) → Stands system log e → moved_with_state system (log ++ e ∷ []) p ≡ true → has_state system (log ++ e ∷ []) p ≡ true
    more log e before stands moved =
        has_state-snoc system log e p ∙ by_test (moves_next system log e p) (has_state system log p) (moved_with_state system log p) _ before (sym (moved_with_state-snoc system log e p) ∙ moved)
