-- What is kept of one process of a log that is checked.
use Rattle.std.specs.Prelude.{◌≡◌, Bool, true, List, [], ◌∷◌, ◌++◌, Some, None}
use Rattle.t32_base.specs.declared.process.Pid.{Pid}
use Rattle.sys_text.specs.declared.system.System.{System}
use Rattle.sys_text.specs.Valid.{is_system}
use Rattle.proc_state.specs.State.{ProcState, state_of}
use Rattle.plain_kernel.specs.Kernel.{boot, process_at}
use Rattle.bus_msg.specs.declared.entry.Entry.{Entry}
use Rattle.bus_msg.specs.Places.{Places}
use Rattle.bus_msg.specs.PlacedAfter.{what}
use Rattle.cert_sched.specs.Schedule.{placement, process_after}
use Rattle.cert_sched.specs.Deeds.{is_birth_of}
use Rattle.cert_sched.specs.Legal.{IsLegalBy, MayStand}
use Rattle.cert_sched.specs.Simulation.{IsUnended}
use Rattle.audited_process.specs.declared.audited.Audited.{Audited}
use Rattle.audited_process.specs.Concerns.{goes_on}
use Rattle.audited_process.specs.Begun.{IsBegunOf, StandsAt, led}
use Rattle.audited_process.specs.SinceMoved.{BeginsUnmoved, IsSinceMovedOf}

-- ---- what is kept

-- The process stands as it does after a log, and what is kept of it beside that is what the log says.
pub record IsAuditedOf (system : System) (log : List Entry) (p : Pid) (a : Audited) : Type 0 where
  pub there : process_after system log p ≡ Some (state_of a.process)
  pub begun : IsBegunOf system log p a.begun
  pub since_moved : IsSinceMovedOf system log p a.since_moved

-- The same where the process stands as the next entry led it, before a letter of the entry arrives.
pub record IsLedBy (e : Entry) (system : System) (log : List Entry) (p : Pid) (a : Audited) : Type 0 where
  pub there : led system log e p ≡ Some (state_of a.process)
  pub begun : IsBegunOf system log p a.begun
  pub since_moved : IsSinceMovedOf system log p a.since_moved

-- ---- where it begins

-- This is kept of a process that starts where it stands and that no loss moved.
pub record Begins (s : ProcState) (stated : Bool) (a : Audited) : Type 0 where
  pub there : state_of a.process ≡ s
  pub ahead : a.ahead ≡ None
  pub begun : StandsAt s stated a.begun
  pub unmoved : BeginsUnmoved a.since_moved

-- this is kept of each root that stands so at boot
abbrev pub BeginsAsRoot : ProcState → Audited → Type 0
BeginsAsRoot s a = (system : System) (p : Pid) → is_system system ≡ true → process_at (boot system) p ≡ Some s → IsAuditedOf system [] p a

-- this is kept of each process that an entry bears and that stands so then
abbrev pub BeginsAsChild : ProcState → Audited → Type 0
BeginsAsChild s a = (system : System) (log : List Entry) (e : Entry) (p : Pid) → is_system system ≡ true → IsLegalBy MayStand system log
    → MayStand system log e → is_birth_of p (what e) ≡ true
    → process_after system (log ++ e ∷ []) p ≡ Some s → IsAuditedOf system (log ++ e ∷ []) p a

-- ---- what an entry makes of it

-- what was kept of the process, which the next entry led there, is what is kept of it after the entry: of each legal log with this
-- placement in which it has not ended
abbrev pub TakesEntry : Pid → Places → Audited → Audited → Entry → Type 0
TakesEntry p before old new e = (system : System) (log : List Entry) → is_system system ≡ true → IsLegalBy MayStand system log
    → MayStand system log e → placement system log ≡ before
    → IsUnended system log p → goes_on p (what e) ≡ true → IsLedBy e system log p old → IsAuditedOf system (log ++ e ∷ []) p new
