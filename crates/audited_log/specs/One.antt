-- What is answered to a line of one process.
use Rattle.std.specs.Prelude.{ℕ, ◌≡◌, true, List, Option, Some, None, option_map}
use Rattle.t32_base.specs.declared.process.Pid.{Pid}
use Rattle.sys_text.specs.declared.system.System.{System}
use Rattle.sys_text.specs.Valid.{is_system}
use Rattle.bus_msg.specs.declared.entry.Entry.{Entry}
use Rattle.cert_sched.specs.Legal.{IsLegalBy, MayStand}
use Rattle.entry_lines.specs.declared.told.ToldBy.{ToldBy}
use Rattle.entry_lines.specs.declared.told.ToldWhat.{ToldWhat}
use Rattle.log_audit.specs.Decides.{Decides}
use Rattle.log_births.specs.declared.births.Born.{Born}
use Rattle.audited_process.specs.declared.audited.Audited.{Audited}
use Rattle.audited_log.specs.declared.answer.Answer.{Answer}
use Rattle.audited_log.specs.declared.common.Common.{Common}
use Rattle.audited_log.specs.Common.{IsCommonOf}
use Rattle.audited_log.specs.Processes.{BearsAs, IsKeptOf, IsLedOf}

-- What is kept of all processes together, and of this one, is what a log says.
pub record KeepsOne (c : Common) (p : Pid) (a : Audited) (system : System) (log : List Entry) : Type 0 where
  pub common : IsCommonOf system log c
  pub one : IsKeptOf system log p a

-- the answer to the line is right for each legal log of which that is kept
abbrev pub AnswersOne : Common → Pid → Audited → ℕ → ToldBy → ToldWhat → Option Answer → Type 0
AnswersOne c p a place by w result =
    Decides MayStand (KeepsOne c p a) (record { place = place; by = by; what = w }) (option_map (λ (a : Answer). a.entry) result)

-- The process stands as the entry led it, and the child that the entry bears is this one.
pub record IsLedOne (system : System) (log : List Entry) (p : Pid) (a : Audited) (answer : Answer) : Type 0 where
  pub led : IsLedOf answer.entry system log p a
  pub child : BearsAs system log answer.entry answer.child

-- so it is of each legal log of which that was kept
abbrev pub LeadsOne : Common → Pid → Audited → Audited → Answer → Type 0
LeadsOne c p old new answer = (system : System) (log : List Entry) → is_system system ≡ true → IsLegalBy MayStand system log
    → KeepsOne c p old system log → IsLedOne system log p new answer

-- the answer is the birth with its child, which has this number
abbrev pub IsOfBirth : ℕ → Option Born → Option Answer → Type 0
IsOfBirth told None answer = answer ≡ None
IsOfBirth told (Some born) answer =
    (answer ≡ Some (record { entry = born.entry; child = Some born.child })) × ((((born.child).small).pid).0 ≡ told)

-- what was kept of all processes together is so still
abbrev pub StaysCommon : Common → Common → Type 0
StaysCommon old new = (system : System) (log : List Entry) → IsCommonOf system log old → IsCommonOf system log new
