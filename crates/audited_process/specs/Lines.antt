-- Which lines of a process that is kept may stand next, and where their entries lead it.
use Rattle.std.specs.Prelude.{ℕ, ◌≡◌, true, List, Option}
use Rattle.t32_base.specs.declared.process.Pid.{Pid}
use Rattle.t32_base.specs.declared.letter.BackRec.{BackRec}
use Rattle.sys_text.specs.declared.system.System.{System}
use Rattle.sys_text.specs.Valid.{is_system}
use Rattle.proc_state.specs.State.{state_of}
use Rattle.bus_msg.specs.declared.entry.Entry.{Entry}
use Rattle.cert_sched.specs.Legal.{IsLegalBy, MayStand}
use Rattle.entry_lines.specs.declared.told.ToldWhat.{ToldWhat}
use Rattle.page_server.specs.Account.{PagerState}
use Rattle.page_accounts.specs.Keeps.{KeepsAccounts}
use Rattle.log_audit.specs.Decides.{Decides}
use Rattle.log_audit.specs.Front.{FrontState, IsFrontOf}
use Rattle.log_fetches.specs.declared.kept.Kept.{Kept}
use Rattle.log_fetches.specs.Fetches.{IsFetchesOf}
use Rattle.log_laws.specs.births.Unsynced.{unsynced_births}
use Rattle.log_processes.specs.declared.sender.Head.{Head}
use Rattle.log_processes.specs.declared.sender.Limits.{Limits}
use Rattle.log_processes.specs.declared.sender.Sender.{Sender}
use Rattle.log_processes.specs.Sending.{KeepsSender}
use Rattle.log_records.specs.Records.{AreRecordsOf}
use Rattle.audited_process.specs.declared.audited.Audited.{Audited}
use Rattle.audited_process.specs.Audited.{IsAuditedOf, IsLedBy}

-- What is kept of the process, and of it as a sender, is what a log says.
pub record KeepsAudited (front : FrontState) (limits : Limits) (p : Pid) (a : Audited) (kept : Sender) (system : System)
    (log : List Entry) : Type 0 where
  pub audited : IsAuditedOf system log p a
  pub sender : KeepsSender front limits p (state_of a.process) kept system log

-- so it is, and the page server has the accounts of the log
abbrev pub KeepsPaged : FrontState → Limits → Pid → Audited → Sender → PagerState → System → List Entry → Type 0
KeepsPaged front limits p a kept pager system log = KeepsAudited front limits p a kept system log × KeepsAccounts system log pager

-- What is kept of the process is what a log says, and the front and the fetches are those of the log.
pub record KeepsFetched (front : FrontState) (p : Pid) (a : Audited) (fetches : List (ℕ × Kept)) (system : System)
    (log : List Entry) : Type 0 where
  pub before : IsFrontOf system log front
  pub fetched : IsFetchesOf system log fetches
  pub audited : IsAuditedOf system log p a

-- So it is, with the children that never synchronised and the records.
pub record KeepsRecorded (front : FrontState) (p : Pid) (a : Audited) (births : List (Pid × Pid)) (recs : List BackRec) (system : System)
    (log : List Entry) : Type 0 where
  pub before : IsFrontOf system log front
  pub family : births ≡ unsynced_births system log
  pub records : AreRecordsOf system log recs
  pub audited : IsAuditedOf system log p a

-- by these a line of the process is answered right
abbrev pub AnswersLine : (System → List Entry → Type 0) → Head → ToldWhat → Option Entry → Type 0
AnswersLine Kept head w result = Decides MayStand Kept (record { place = head.place; by = head.by; what = w }) result

-- the entry leads the process there, in each legal log of which that is kept
abbrev pub LeadsTo : (System → List Entry → Type 0) → Pid → Audited → Entry → Type 0
LeadsTo Kept p led e = (system : System) (log : List Entry) → is_system system ≡ true → IsLegalBy MayStand system log → Kept system log
    → IsLedBy e system log p led
