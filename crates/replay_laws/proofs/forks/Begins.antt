-- A child that a crash moves without a state waits for its parent's fork, and waits on after the entries that do not cut it.
use Rattle.std.proofs.Common.{◌≡◌, ℕ, refl, ◌∙◌, ap, List, [], ◌∷◌, ◌++◌, Bool, true, false, cond, ◌||◌, Option, Some, None, is_some, replicate, true≢false}
use Rattle.std.specs.Option.{option_map_or}
use Rattle.t32_base.specs.declared.process.Pid.{Pid}
use Rattle.t32_base.specs.declared.letter.BackRec.{BackRec}
use Rattle.t32_base.specs.Small.{SmallState}
use Rattle.sys_text.specs.declared.system.System.{System}
use Rattle.sys_text.specs.Valid.{is_system}
use Rattle.bus_msg.specs.declared.entry.Entry.{Entry}
use Rattle.bus_msg.specs.PlacedAfter.{what}
use Rattle.cert_sched.specs.Schedule.{placement}
use Rattle.cert_sched.specs.Told.{is_moved}
use Rattle.cert_sched.specs.Deeds.{is_cut}
use Rattle.cert_sched.specs.Legal.{IsLegalBy, Stands}
use Rattle.cert_sched.specs.Moved.{any_since_moved}
use Rattle.cert_sched.specs.Record.{backup_record, has_state}
use Rattle.cert_sched.specs.Simulation.{IsUnended}
use Rattle.cert_sched.proofs.RecordLaws.{has_state-snoc}
use Rattle.backup_records.specs.Records.{record_after}
use Rattle.log_laws.specs.pages.Next.{moves_next}
use Rattle.log_laws.proofs.pages.OneEntry.{any_since-snoc}
use Rattle.checkpoint_laws.specs.marks.Beside.{is_some_page}
use Rattle.replay_laws.proofs.rolling.FromStart.{record_stated}
use Rattle.page_waits.specs.Waiting.{WaitingState, next_page, rolling_of}
use Rattle.replay_laws.specs.pages.Waits.{first_wait}
use Rattle.replay_laws.proofs.pages.Begins.{loss_cuts_none}
use Rattle.replay_laws.proofs.pages.Records.{loss_leaves, record_next}
use Rattle.replay_laws.specs.forks.ForkWaits.{WaitsForFork}

-- the record of a process without a state has none
pub state_none : (system : System) (log : List Entry) (p : Pid) (kept : BackRec) → has_state system log p ≡ false → backup_record system log p ≡ Some kept → kept.state ≡ None
state_none system log p kept stateless is = by_state kept.state (record_stated system log p kept is ∙ stateless)
  where
    by_state : (o : Option SmallState) → is_some o ≡ false → o ≡ None
    by_state None none = refl
    by_state (Some small) none = absurd (true≢false none)

-- an entry that does not cut a process leaves it without a state
pub stateless_still : (system : System) (log : List Entry) (e : Entry) (p : Pid) → is_cut p (what e) ≡ false → has_state system log p ≡ false → has_state system (log ++ e ∷ []) p ≡ false
stateless_still system log e p no_cut stateless = has_state-snoc system log e p ∙ (λ i. stateless i || no_cut i)

-- the record follows an entry that does not cut it
pub follows_so : (system : System) (log : List Entry) (e : Entry) (p : Pid) (w : WaitingState) → is_system system ≡ true → IsLegalBy Stands system (log ++ e ∷ []) → IsUnended system log p → is_cut p (what e) ≡ false → is_some_page p (what e) ≡ false → WaitsForFork system log p w
    → WaitsForFork system (log ++ e ∷ []) p (record w { kept = record_after (what e) w.kept })
follows_so system log e p w valid legal unended no_cut no_page waits = record {
  kept = record_next system log e p w.kept valid legal no_cut unended waits.kept;
  stateless = stateless_still system log e p no_cut waits.stateless;
  asked = waits.asked;
  come = waits.come;
  unsent = any_since-snoc system log e p (is_some_page p) ∙ (λ i. cond (moves_next system log e p) false (waits.unsent i || no_page i)) ∙ either (moves_next system log e p);
}
  where
    either : (b : Bool) → cond b false false ≡ false
    either true = refl
    either false = refl

-- one that is moved has its record
pub begins_so : (system : System) (log : List Entry) (e : Entry) (p : Pid) (kept : BackRec) → is_system system ≡ true → IsLegalBy Stands system (log ++ e ∷ []) → IsUnended system log p → has_state system log p ≡ false
    → moves_next system log e p ≡ true → backup_record system log p ≡ Some kept → WaitsForFork system (log ++ e ∷ []) p (first_wait kept)
begins_so system log e p kept valid legal unended stateless moves is =
    let no_cut = loss_cuts_none p (what e) (is_moved p (placement system log)) moves in
    record {
      kept = record_next system log e p kept valid legal no_cut unended is ∙ ap Some (loss_leaves (what e) (is_moved p (placement system log)) kept moves);
      stateless = stateless_still system log e p no_cut stateless;
      asked = refl;
      come = ap (λ (o : Option SmallState). replicate {A = Option (List ℕ)} (option_map_or (λ (small : SmallState). small.pages) o 0) None) (state_none system log p kept stateless is);
      unsent = any_since-snoc system log e p (is_some_page p) ∙ ap (λ b. cond b false (any_since_moved system log p (is_some_page p) || is_some_page p (what e))) moves;
    }

-- it lacks no page
pub pageless : (system : System) (log : List Entry) (p : Pid) (w : WaitingState) → WaitsForFork system log p w → next_page w ≡ None
pageless system log p w waits = λ i. next_page (record { kept = w.kept; asked = waits.asked i; come = waits.come i })

-- and has no state to go on from
pub no_rolling : (system : System) (log : List Entry) (p : Pid) (w : WaitingState) → WaitsForFork system log p w → rolling_of w ≡ None
no_rolling system log p w waits = rw (state_none system log p w.kept waits.stateless waits.kept) refl
