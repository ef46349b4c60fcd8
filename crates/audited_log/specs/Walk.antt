-- What an entry makes of the processes that are kept.
use Rattle.std.specs.Prelude.{ℕ, ◌≡◌, ◌<◌, ◌-◌, ◌^◌, true, false, List, [], ◌∷◌, ◌++◌, length, Option, Some, None, ⊤, ◌||◌, Bool, not, ◌&&◌}
use Rattle.t32_base.specs.declared.process.Pid.{Pid}
use Rattle.sys_text.specs.declared.system.System.{System}
use Rattle.sys_text.specs.Valid.{is_system}
use Rattle.proc_state.specs.declared.process.Process.{Process}
use Rattle.proc_state.specs.State.{state_of}
use Rattle.bus_msg.specs.declared.entry.Entry.{Entry}
use Rattle.bus_msg.specs.declared.entry.What.{What}
use Rattle.bus_msg.specs.declared.entry.What.TheVariants.{Crash, Page}
use Rattle.bus_msg.specs.Places.{Places, same_pid}
use Rattle.bus_msg.specs.PlacedAfter.{what}
use Rattle.cert_sched.specs.Schedule.{placement}
use Rattle.cert_sched.specs.Rules.{is_over}
use Rattle.cert_sched.specs.Legal.{IsLegalBy, MayStand}
use Rattle.log_cuts.specs.Ahead.{IsAhead}
use Rattle.audited_process.specs.declared.audited.Audited.{Audited}
use Rattle.audited_process.specs.Audited.{TakesEntry}
use Rattle.audited_process.specs.Concerns.{changes, goes_on}
use Rattle.audited_log.specs.Processes.{AreKept, AreLed, BearsAs, IsLedOf, kept_at}

-- ---- whom it concerns

-- it is a page of the process, or a loss, which may move it
abbrev pub tells_of : Pid → What → Bool
tells_of p (Page pid at index bytes) = same_pid pid p
tells_of p (Crash k cause) = true
tells_of p _ = false

-- it may change what is kept of a process that waits for no new backup
abbrev pub concerns : Pid → What → Bool
concerns p w = changes p w || tells_of p w

-- it leaves what is kept of the process
abbrev pub is_left : Pid → What → Audited → Bool
is_left p w a = not (a.since_moved).waits && not (concerns p w)

-- ---- when it can be taken in

-- some legal log, with room for the entry, leads a process there by it
pub record CanBeTaken (e : Entry) (p : Pid) (a : Audited) : Type 0 where
  pub system : System
  pub log : List Entry
  pub valid : is_system system ≡ true
  pub legal : IsLegalBy MayStand system log
  pub may : MayStand system log e
  pub room : length log < 2 ^ 64 - 1
  pub led : IsLedOf e system log p a

-- so it is of each of them that goes on
abbrev pub AllCanBeTaken : Entry → List (ℕ × Audited) → Type 0
AllCanBeTaken e processes = (p : Pid) (a : Audited) → kept_at processes p ≡ Some a → goes_on p (what e) ≡ true → CanBeTaken e p a

-- ---- what becomes of one

-- it goes on, where it does; otherwise nothing is said
abbrev pub GoesOn : Places → Entry → Pid → Audited → Audited → Type 0
GoesOn before e p old new = goes_on p (what e) ≡ true → TakesEntry p before old new e × IsAhead (state_of new.process) new.ahead

-- it goes on; one that is not there stays away
abbrev pub GoesOnIfThere : Places → Entry → Pid → Option Audited → Option Audited → Type 0
GoesOnIfThere before e p None None = ⊤
GoesOnIfThere before e p (Some old) (Some new) = GoesOn before e p old new
GoesOnIfThere before e p None (Some new) = ⊥
GoesOnIfThere before e p (Some old) None = ⊥

-- ---- of all of them

-- each goes on
abbrev pub AllGoOn : Places → Entry → List (ℕ × Audited) → List (ℕ × Audited) → Type 0
AllGoOn before e old new = (p : Pid) → GoesOnIfThere before e p (kept_at old p) (kept_at new p)

-- those of a legal log that the next entry led, and then those of the log with the entry, unless that is over
abbrev pub TakesAll : Places → Entry → Option Process → List (ℕ × Audited) → List (ℕ × Audited) → Type 0
TakesAll before e child old new = (system : System) (log : List Entry) → is_system system ≡ true → IsLegalBy MayStand system log
    → MayStand system log e → placement system log ≡ before
    → AreLed e system log old → BearsAs system log e child → is_over system (log ++ e ∷ []) ≡ false → AreKept system (log ++ e ∷ []) new
