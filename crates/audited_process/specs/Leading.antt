-- Where the next entry leads a process that is kept, and what its line tells of that.
use Rattle.std.specs.Prelude.{ℕ, ◌≡◌, ◌==◌, ◌<◌, ◌-◌, ◌^◌, Bool, true, false, not, ◌||◌, List, [], ◌∷◌, ◌++◌, length, Some}
use Rattle.t32_base.specs.declared.process.Pid.{Pid}
use Rattle.sys_text.specs.declared.system.System.{System}
use Rattle.sys_text.specs.Valid.{is_system}
use Rattle.proc_state.specs.State.{state_of}
use Rattle.bus_msg.specs.declared.entry.Entry.{Entry}
use Rattle.bus_msg.specs.PlacedAfter.{what}
use Rattle.cert_sched.specs.Schedule.{process_after}
use Rattle.cert_sched.specs.Deeds.{is_cut}
use Rattle.cert_sched.specs.Steps.{after_items}
use Rattle.cert_sched.specs.Legal.{IsLegalBy, MayStand}
use Rattle.cert_sched.specs.Simulation.{IsUnended}
use Rattle.entry_lines.specs.declared.told.ToldWhat.{ToldWhat}
use Rattle.entry_lines.specs.declared.told.ToldWhat.TheVariants.{Mail as ToldMail, Birth as ToldBirth, Exit as ToldExit, Sync as ToldSync, Fresh as ToldFresh, Done as ToldDone}
use Rattle.log_processes.specs.Arrivals.{is_writer}
use Rattle.audited_process.specs.declared.audited.Audited.{Audited}
use Rattle.audited_process.specs.Concerns.{forks, goes_on, steps_by}
use Rattle.audited_process.specs.Audited.{IsAuditedOf, IsLedBy}

-- ---- from the log to the entry

-- what is kept beside where the process stands is the same
abbrev pub SameBeside : Audited → Audited → Type 0
SameBeside old new = (new.begun ≡ old.begun) × (new.since_moved ≡ old.since_moved)

-- A process that does not step by the entry is led nowhere; one that sends stands behind its step, and one that forks or is cut as it does
-- after the entry.
pub record LeadsOn : Type 0 where
  pub others : (system : System) (log : List Entry) (e : Entry) (p : Pid) (a : Audited) → steps_by p (what e) ≡ false
      → IsAuditedOf system log p a → IsLedBy e system log p a
  pub sends : (system : System) (log : List Entry) (e : Entry) (p : Pid) (a led : Audited) → is_writer p (what e) ≡ true
      → IsAuditedOf system log p a → SameBeside a led
      → after_items system log (what e) ≡ Some (state_of led.process) → IsLedBy e system log p led
  pub stands : (system : System) (log : List Entry) (e : Entry) (p : Pid) (a led : Audited)
      → (forks p (what e) || is_cut p (what e)) ≡ true → IsAuditedOf system log p a → SameBeside a led
      → process_after system (log ++ e ∷ []) p ≡ Some (state_of led.process) → IsLedBy e system log p led

-- ---- what a line tells

-- the process with this number steps by the entry with the line
abbrev pub is_step_told : ℕ → ToldWhat → Bool
is_step_told n (ToldMail from at letter) = from == n
is_step_told n (ToldBirth parent at child end) = parent == n
is_step_told n (ToldSync pid at took) = pid == n
is_step_told n (ToldFresh (pid ∷ others) at to) = pid == n
is_step_told n _ = false

-- neither it nor the run ends by it
abbrev pub is_going_told : ℕ → ToldWhat → Bool
is_going_told n (ToldExit pid at end) = not (pid == n)
is_going_told n ToldDone = false
is_going_told n _ = true

-- it forks or is cut by it
abbrev pub is_standing_told : ℕ → ToldWhat → Bool
is_standing_told n (ToldBirth parent at child end) = parent == n
is_standing_told n (ToldSync pid at took) = pid == n
is_standing_told n (ToldFresh (pid ∷ others) at to) = pid == n
is_standing_told n _ = false

-- it sends by it
abbrev pub is_letter_told : ℕ → ToldWhat → Bool
is_letter_told n (ToldMail from at letter) = from == n
is_letter_told n _ = false

-- ---- who stays

-- a process that has not ended has not after an entry that ends neither it nor the run
abbrev pub StaysUnended : Type 0
StaysUnended = (system : System) (log : List Entry) (e : Entry) (p : Pid) → is_system system ≡ true → IsLegalBy MayStand system log
    → MayStand system log e → IsUnended system log p → goes_on p (what e) ≡ true → IsUnended system (log ++ e ∷ []) p

-- ---- room

-- what comes to a process of a log with so few entries can be counted
abbrev pub HasRoom : Type 0
HasRoom = (system : System) (log : List Entry) (e : Entry) (p : Pid) (a : Audited) → is_system system ≡ true
    → IsLegalBy MayStand system log → MayStand system log e → IsUnended system log p → goes_on p (what e) ≡ true
    → length log < 2 ^ 64 - 1 → IsLedBy e system log p a → ((state_of a.process).next < 2 ^ 64 - 1) × ((a.begun).saved < 2 ^ 64 - 1)
