-- Where a process started, and how it goes on from there by an entry.
use Rattle.std.specs.Prelude.{◌≡◌, Bool, true, ◌||◌, if◌then◌else◌, List, [], ◌∷◌, ◌++◌, length, Option, Some}
use Rattle.t32_base.specs.declared.process.Pid.{Pid}
use Rattle.sys_text.specs.declared.system.System.{System}
use Rattle.sys_text.specs.Valid.{is_system}
use Rattle.proc_state.specs.State.{ProcState}
use Rattle.bus_msg.specs.declared.entry.Entry.{Entry}
use Rattle.bus_msg.specs.PlacedAfter.{what}
use Rattle.cert_sched.specs.Schedule.{process_after}
use Rattle.cert_sched.specs.Deeds.{is_cut}
use Rattle.cert_sched.specs.Steps.{saved_of, start_steps}
use Rattle.cert_sched.specs.Legal.{IsLegalBy, MayStand}
use Rattle.cert_sched.specs.Simulation.{IsUnended}
use Rattle.log_processes.specs.Arrivals.{stepped}
use Rattle.log_cuts.specs.Start.{BeginsAt, KeepsStart}
use Rattle.audited_process.specs.declared.begun.Begun.{Begun}
use Rattle.audited_process.specs.Concerns.{forks, goes_on}

-- What is kept is what a log says: the steps of the process where it started, how many letters it had not read there and came since, and
-- what the numbers of its letters were there.
pub record IsBegunOf (system : System) (log : List Entry) (p : Pid) (b : Begun) : Type 0 where
  pub steps : b.steps ≡ start_steps system log p
  pub saved : b.saved ≡ length (saved_of system log p)
  pub start : KeepsStart p b.start system log

-- This is kept of a process that starts where it stands.
pub record StandsAt (s : ProcState) (has : Bool) (b : Begun) : Type 0 where
  pub steps : b.steps ≡ (s.small).steps
  pub saved : b.saved ≡ length s.mail
  pub stated : (b.start).stated ≡ has
  pub start : BeginsAt s b.start

-- the process right behind the next entry, before a letter of it arrives: where its fork or its cut leaves it, where it sent the letter, or
-- where it stood
abbrev pub led : System → List Entry → Entry → Pid → Option ProcState
led system log e p = if forks p (what e) || is_cut p (what e) then process_after system (log ++ e ∷ []) p else stepped system log (what e) p

-- What was kept of the process, which the next entry led there, is what is kept of it after the entry: of each legal log in which it has
-- not ended.
abbrev pub GoesOn : Entry → Pid → ProcState → Begun → ProcState → Begun → Type 0
GoesOn e p s old t new = (system : System) (log : List Entry) → is_system system ≡ true → IsLegalBy MayStand system log
    → MayStand system log e → IsUnended system log p → goes_on p (what e) ≡ true
    → led system log e p ≡ Some s → IsBegunOf system log p old
    → (process_after system (log ++ e ∷ []) p ≡ Some t) × IsBegunOf system (log ++ e ∷ []) p new
