-- What an entry leaves of a process that is kept.
use Rattle.std.specs.Prelude.{ℕ, ◌≡◌, Bool, true, false, not, ◌&&◌, if◌then◌else◌, List, [], ◌∷◌, ◌++◌, length, Option, Some}
use Rattle.t32_base.specs.declared.process.Pid.{Pid}
use Rattle.sys_text.specs.declared.system.System.{System}
use Rattle.sys_text.specs.Valid.{is_system}
use Rattle.proc_state.specs.State.{ProcState}
use Rattle.bus_msg.specs.declared.entry.What.{What}
use Rattle.bus_msg.specs.declared.entry.What.TheVariants.{Mail, Birth, Exit, Page, Sync, Fetch, PageIs, Crash, Return, Rebackup, Done, Stop}
use Rattle.bus_msg.specs.declared.entry.Entry.{Entry}
use Rattle.bus_msg.specs.Places.{same_pid}
use Rattle.bus_msg.specs.PlacedAfter.{what}
use Rattle.cert_sched.specs.Schedule.{process_after}
use Rattle.cert_sched.specs.Deeds.{is_first}
use Rattle.cert_sched.specs.Steps.{after_items, saved_of, start_steps}
use Rattle.cert_sched.specs.Legal.{IsLegalBy, MayStand}
use Rattle.cert_sched.specs.Simulation.{IsUnended}
use Rattle.log_processes.specs.declared.sender.Sender.{Sender}
use Rattle.log_processes.specs.Sending.{KeepsProcess}

-- the process wrote the letter of an entry
abbrev pub is_writer : Pid → What → Bool
is_writer p (Mail at letter) = same_pid letter.from p
is_writer p _ = false

-- an entry that tells of no birth, fork, exit or cut of the process, and does not end the run: at most letters of it come and go
abbrev pub leaves : Pid → What → Bool
leaves p (Mail at letter) = true
leaves p (Birth parent at child end) = not (same_pid parent p) && not (same_pid child p)
leaves p (Exit pid at end) = not (same_pid pid p)
leaves p (Page pid at index bytes) = true
leaves p (Sync pid small read took) = not (same_pid pid p)
leaves p (Fetch pid index) = true
leaves p (PageIs pid index bytes) = true
leaves p (Crash k cause) = true
leaves p (Return k) = true
leaves p (Rebackup to fresh recs) = not (fresh && is_first p recs)
leaves p (Done rests) = false
leaves p Stop = true

-- the process behind the step that wrote the letter of an entry, and where it wrote none as it stands after the log
abbrev pub stepped : System → List Entry → What → Pid → Option ProcState
stepped system log w p = if is_writer p w then after_items system log w else process_after system log p

-- What is kept of a process, where it stands so.
pub record StandsBefore (w : What) (p : Pid) (s : ProcState) (start saved : ℕ) (system : System) (log : List Entry) : Type 0 where
  pub there : stepped system log w p ≡ Some s
  pub begins : start ≡ start_steps system log p
  pub letters : saved ≡ length (saved_of system log p)

-- What was kept of a process, with where it stands behind its own step, is what is kept of it after the entry: for each legal log in which the process has not ended.
abbrev pub KeepsOn : Entry → Pid → ProcState → Sender → ProcState → Sender → Type 0
KeepsOn e p s old t new = (system : System) (log : List Entry) → is_system system ≡ true → IsLegalBy MayStand system log → MayStand system log e → IsUnended system log p → leaves p (what e) ≡ true
    → StandsBefore (what e) p s old.start old.saved system log → KeepsProcess p t new.start new.saved system (log ++ e ∷ [])
