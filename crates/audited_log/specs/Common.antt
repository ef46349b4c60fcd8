-- What is kept of all processes of a log together.
use Rattle.std.specs.Prelude.{◌≡◌, true, List, [], ◌∷◌, ◌++◌}
use Rattle.sys_text.specs.declared.system.System.{System}
use Rattle.sys_text.specs.Valid.{is_system}
use Rattle.bus_msg.specs.declared.entry.Entry.{Entry}
use Rattle.cert_sched.specs.Legal.{IsLegalBy, MayStand}
use Rattle.page_accounts.specs.Keeps.{KeepsAccounts}
use Rattle.log_laws.specs.births.Unsynced.{unsynced_births}
use Rattle.log_audit.specs.Front.{IsFrontOf}
use Rattle.log_fetches.specs.Fetches.{IsFetchesOf}
use Rattle.log_processes.specs.Sending.{AreLimits}
use Rattle.log_records.specs.Records.{AreRecordsOf}
use Rattle.audited_log.specs.declared.common.Common.{Common}

-- It is what a log says: its front, the system's limits, the accounts of a page server, the fetches, the children that never
-- synchronised, and the records.
pub record IsCommonOf (system : System) (log : List Entry) (c : Common) : Type 0 where
  pub front : IsFrontOf system log c.front
  pub limits : AreLimits c.limits system
  pub accounts : KeepsAccounts system log c.pager
  pub fetches : IsFetchesOf system log c.fetches
  pub family : c.family ≡ unsynced_births system log
  pub records : AreRecordsOf system log c.records

-- that of a legal log, and then of the log with an entry that may stand next
abbrev pub KeepsCommon : Common → Common → Entry → Type 0
KeepsCommon old new e = (system : System) (log : List Entry) → is_system system ≡ true → IsLegalBy MayStand system log
    → MayStand system log e
    → IsCommonOf system log old → IsCommonOf system (log ++ e ∷ []) new
