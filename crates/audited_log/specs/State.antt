-- What is kept of a log that is checked.
use Rattle.std.specs.Prelude.{◌≡◌, true, false, List, [], ◌∷◌, ◌++◌}
use Rattle.sys_text.specs.declared.system.System.{System}
use Rattle.sys_text.specs.Valid.{is_system}
use Rattle.bus_msg.specs.declared.entry.Entry.{Entry}
use Rattle.cert_sched.specs.Rules.{is_over}
use Rattle.cert_sched.specs.Legal.{IsLegal}
use Rattle.audited_log.specs.declared.state.AuditedLog.{AuditedLog}
use Rattle.audited_log.specs.Common.{IsCommonOf}
use Rattle.audited_log.specs.Processes.{AreKept}

-- What is kept of all processes together is what a log says, and so is what is kept of each that has not ended, while the log is open.
pub record IsStateOf (system : System) (log : List Entry) (state : AuditedLog) : Type 0 where
  pub common : IsCommonOf system log state.common
  pub processes : is_over system log ≡ false → AreKept system log (state.processes).entries

-- it is so of some legal log
pub record IsOfSomeLog (state : AuditedLog) : Type 0 where
  pub system : System
  pub log : List Entry
  pub valid : is_system system ≡ true
  pub legal : IsLegal system log
  pub is : IsStateOf system log state

-- it is so of each legal log of which it was, with this entry
abbrev pub KeepsState : AuditedLog → AuditedLog → Entry → Type 0
KeepsState old new e = (system : System) (log : List Entry) → is_system system ≡ true → IsLegal system log
    → IsStateOf system log old → IsStateOf system (log ++ e ∷ []) new
