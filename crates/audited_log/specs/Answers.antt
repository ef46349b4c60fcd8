-- What is answered to a line of any kind.
use Rattle.std.specs.Prelude.{ℕ, ◌≡◌, ◌<◌, ◌-◌, ◌^◌, true, false, List, [], ◌∷◌, ◌++◌, length, Option, None, option_map}
use Rattle.std.specs.Option.{IfSome}
use Rattle.sys_text.specs.declared.system.System.{System}
use Rattle.sys_text.specs.Valid.{is_system}
use Rattle.bus_msg.specs.declared.entry.Entry.{Entry}
use Rattle.bus_msg.specs.PlacedAfter.{what}
use Rattle.cert_sched.specs.Legal.{IsLegalBy, MayFollow, MayStand}
use Rattle.entry_lines.specs.declared.told.Told.{Told}
use Rattle.entry_lines.specs.declared.told.ToldBy.{ToldBy}
use Rattle.entry_lines.specs.declared.told.ToldWhat.{ToldWhat}
use Rattle.line_laws.specs.Meant.{is_end}
use Rattle.page_accounts.specs.Answering.{IsKept, earliest}
use Rattle.log_audit.specs.Decides.{Decides}
use Rattle.log_audit.specs.Front.{is_next}
use Rattle.audited_log.specs.declared.answer.Answer.{Answer}
use Rattle.audited_log.specs.declared.common.Common.{Common}
use Rattle.audited_log.specs.declared.state.AuditedLog.{AuditedLog}
use Rattle.audited_log.specs.Common.{IsCommonOf}
use Rattle.audited_log.specs.Processes.{AreLed, BearsAs}
use Rattle.audited_log.specs.State.{IsOfSomeLog, IsStateOf}

-- the answer is right for each legal log of which this is kept
abbrev pub FollowsTold : AuditedLog → Told → Option Entry → Type 0
FollowsTold state told result = Decides MayFollow (λ system log. IsStateOf system log state) told result

-- ---- by all rules but that of new backups

-- the answer is right for each log of which this is kept
abbrev pub AnswersTold : AuditedLog → Told → Option Entry → Type 0
AnswersTold state told result = Decides MayStand (λ system log. IsStateOf system log state) told result

abbrev pub entry_of : Option Answer → Option Entry
entry_of answer = option_map (λ (a : Answer). a.entry) answer

-- the same where the line says this
abbrev pub AnswersSaid : AuditedLog → ℕ → ToldBy → ToldWhat → Option Answer → Type 0
AnswersSaid state place by w result = AnswersTold state (record { place = place; by = by; what = w }) (entry_of result)

-- the state is that of some legal log, in which an entry with this place may stand next
pub record IsReady (state : AuditedLog) (place : ℕ) : Type 0 where
  pub some : IsOfSomeLog state
  pub next : is_next (state.common).front place ≡ true

-- ---- where the line is of no process

-- the page server has each page that may be sent next
abbrev pub HasPages : Common → Type 0
HasPages c = IfSome (earliest c.pager) (IsKept c.pager)

-- the answer is right for each legal log of which this is kept of all processes together
abbrev pub AnswersCommon : Common → ℕ → ToldBy → ToldWhat → Option Answer → Type 0
AnswersCommon c place by w result =
    Decides MayStand (λ system log. IsCommonOf system log c) (record { place = place; by = by; what = w }) (entry_of result)

-- the entry bears no child
abbrev pub IsChildless : Answer → Type 0
IsChildless a = a.child ≡ None

-- ---- between the answer and the next state

-- What is kept of all together is what a log says, each process stands as the next entry led it, unless the run ends by that, and the
-- child that it bears is this one.
pub record IsLedStateOf (system : System) (log : List Entry) (state : AuditedLog) (a : Answer) : Type 0 where
  pub common : IsCommonOf system log state.common
  pub processes : is_end (what a.entry) ≡ false → AreLed a.entry system log (state.processes).entries
  pub child : BearsAs system log a.entry a.child

-- so it is of each legal log of which the state was
abbrev pub Leads : AuditedLog → AuditedLog → Answer → Type 0
Leads old new a = (system : System) (log : List Entry) → is_system system ≡ true → IsLegalBy MayStand system log
    → IsStateOf system log old → IsLedStateOf system log new a

-- it is so of some legal log with room for the entry, which may stand next in it
pub record CanTake (state : AuditedLog) (a : Answer) : Type 0 where
  pub system : System
  pub log : List Entry
  pub valid : is_system system ≡ true
  pub legal : IsLegalBy MayStand system log
  pub may : MayStand system log a.entry
  pub room : length log < 2 ^ 64 - 1
  pub is : IsLedStateOf system log state a

-- the state of each such log becomes that of the log with the entry
abbrev pub TakesAnswer : AuditedLog → AuditedLog → Answer → Type 0
TakesAnswer old new a = (system : System) (log : List Entry) → is_system system ≡ true → IsLegalBy MayStand system log
    → MayStand system log a.entry → IsLedStateOf system log old a
    → IsStateOf system (log ++ a.entry ∷ []) new
