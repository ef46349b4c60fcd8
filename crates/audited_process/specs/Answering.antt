-- What is kept of a process is what the answers to lines ask of it.
use Rattle.std.specs.Prelude.{ℕ, ◌≡◌, true, if◌then◌else◌, List, Some, None, is_some}
use Rattle.t32_base.specs.declared.process.Pid.{Pid}
use Rattle.t32_base.specs.declared.letter.BackRec.{BackRec}
use Rattle.sys_text.specs.declared.system.System.{System}
use Rattle.sys_text.specs.Valid.{is_system}
use Rattle.proc_state.specs.State.{state_of}
use Rattle.bus_msg.specs.declared.entry.Entry.{Entry}
use Rattle.bus_msg.specs.Places.{unended_at}
use Rattle.cert_sched.specs.Schedule.{placement, process_after}
use Rattle.cert_sched.specs.Simulation.{IsUnended}
use Rattle.page_server.specs.Account.{PagerState}
use Rattle.page_accounts.specs.Keeps.{KeepsAccounts}
use Rattle.log_laws.specs.births.Unsynced.{unsynced_births}
use Rattle.log_audit.specs.declared.fetches.Asked.{Asked}
use Rattle.log_audit.specs.Front.{FrontState, IsFrontOf}
use Rattle.log_audit.specs.Fetches.{KeepsAsked}
use Rattle.log_fetches.specs.declared.kept.Kept.{Kept}
use Rattle.log_fetches.specs.Fetches.{IsFetchesOf}
use Rattle.log_processes.specs.declared.sender.Limits.{Limits}
use Rattle.log_processes.specs.declared.sender.Sender.{Sender}
use Rattle.log_processes.specs.Sending.{AreLimits, KeepsSender}
use Rattle.log_cuts.specs.Pages.{KeepsPages}
use Rattle.log_cuts.specs.Syncs.{KeepsCut}
use Rattle.log_records.specs.Records.{AreRecordsOf}
use Rattle.log_renewals.specs.Standing.{KeepsStanding}
use Rattle.log_renewals.specs.Fresh.{KeepsFresh}
use Rattle.audited_process.specs.declared.audited.Audited.{Audited}
use Rattle.audited_process.specs.Audited.{IsAuditedOf}

-- with the fetches and the children of a log this is what is kept of the process as a sender
abbrev pub SaysSender : Pid → Audited → List (ℕ × Kept) → List (Pid × Pid) → Sender → Type 0
SaysSender p a fetches births kept = (system : System) (log : List Entry) (front : FrontState) (limits : Limits)
    → is_system system ≡ true → IsFrontOf system log front → AreLimits limits system
    → IsFetchesOf system log fetches → births ≡ unsynced_births system log → IsAuditedOf system log p a
    → KeepsSender front limits p (state_of a.process) kept system log

-- and this is what is kept of a page of it
abbrev pub SaysAsked : Pid → Audited → List (ℕ × Kept) → ℕ → Asked → Type 0
SaysAsked p a fetches index kept = (system : System) (log : List Entry) (front : FrontState) → IsFrontOf system log front
    → IsFetchesOf system log fetches → IsAuditedOf system log p a
    → KeepsAsked front p index kept system log

-- What the other answers ask: of a page, a synchronisation, a new backup of a process that has run, one of a process that waits, and the
-- end of the run.
pub record AnswersLines : Type 0 where
  pub page : (system : System) (log : List Entry) (front : FrontState) (limits : Limits) (p : Pid) (a : Audited) (kept : Sender)
      → IsAuditedOf system log p a
      → KeepsSender front limits p (state_of a.process) kept system log
      → KeepsPages front p (state_of a.process) kept (a.since_moved).sent system log
  pub sync : (system : System) (log : List Entry) (front : FrontState) (limits : Limits) (p : Pid) (a : Audited) (kept : Sender)
      (pager : PagerState) → IsAuditedOf system log p a → KeepsAccounts system log pager
      → KeepsSender front limits p (state_of a.process) kept system log
      → KeepsCut front limits p (state_of a.process) kept (a.begun).start pager system log
  pub fresh : (system : System) (log : List Entry) (front : FrontState) (limits : Limits) (p : Pid) (a : Audited) (kept : Sender)
      (pager : PagerState) → KeepsAccounts system log pager
      → KeepsSender front limits p (state_of a.process) kept system log
      → KeepsFresh front limits p (state_of a.process) kept pager system log
  pub standing : (system : System) (log : List Entry) (front : FrontState) (p : Pid) (a : Audited) (births : List (Pid × Pid))
      (recs : List BackRec) → IsAuditedOf system log p a → IsFrontOf system log front
      → births ≡ unsynced_births system log → AreRecordsOf system log recs
      → KeepsStanding front p (a.since_moved).only births recs system log
  pub done : (system : System) (log : List Entry) (p : Pid) (a : Audited) → IsAuditedOf system log p a → IsUnended system log p
      → Some (state_of a.process) ≡ (if is_some (unended_at (placement system log) p) then process_after system log p else None)
