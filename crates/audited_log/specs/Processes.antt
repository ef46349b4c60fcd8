-- What is kept of each process of a log that has not ended.
use Rattle.std.specs.Prelude.{ℕ, ◌≡◌, true, false, List, [], ◌∷◌, ◌++◌, Option, Some, None, is_some, option_map}
use Rattle.std.specs.Map.{lookup}
use Rattle.t32_base.specs.declared.process.Pid.{Pid}
use Rattle.sys_text.specs.declared.system.System.{System}
use Rattle.proc_state.specs.declared.process.Process.{Process}
use Rattle.proc_state.specs.State.{state_of}
use Rattle.plain_kernel.specs.Maps.{at_key}
use Rattle.bus_msg.specs.declared.entry.Entry.{Entry}
use Rattle.bus_msg.specs.Places.{unended_at}
use Rattle.bus_msg.specs.PlacedAfter.{what}
use Rattle.cert_sched.specs.Schedule.{placement, process_after}
use Rattle.cert_sched.specs.Deeds.{is_birth_of}
use Rattle.cert_sched.specs.Simulation.{IsUnended}
use Rattle.log_cuts.specs.Ahead.{IsAhead}
use Rattle.audited_process.specs.declared.audited.Audited.{Audited}
use Rattle.audited_process.specs.Audited.{IsAuditedOf, IsLedBy}
use Rattle.audited_process.specs.Concerns.{changes, goes_on}

-- what is kept of a process, by the numbers of the processes
abbrev pub kept_at : List (ℕ × Audited) → Pid → Option Audited
kept_at processes p = lookup (at_key p.0) processes

-- the process of that
abbrev pub process_in : Option Audited → Option Process
process_in kept = option_map (λ (a : Audited). a.process) kept

-- ---- after a log

-- This is kept of a process that has not ended, with a copy to which silent steps lead it.
pub record IsKeptOf (system : System) (log : List Entry) (p : Pid) (a : Audited) : Type 0 where
  pub unended : IsUnended system log p
  pub audited : IsAuditedOf system log p a
  pub ahead : IsAhead (state_of a.process) a.ahead

-- and nothing of one that is not there, or has ended
abbrev pub IsKept : System → List Entry → Pid → Option Audited → Type 0
IsKept system log p None = is_some (unended_at (placement system log) p) ≡ false
IsKept system log p (Some a) = IsKeptOf system log p a

-- so it is of every process
abbrev pub AreKept : System → List Entry → List (ℕ × Audited) → Type 0
AreKept system log processes = (p : Pid) → IsKept system log p (kept_at processes p)

-- ---- before the next entry is taken in

-- The same where the process, if it goes on, stands as the next entry led it; its copy is still of use where the entry does not change it.
pub record IsLedOf (e : Entry) (system : System) (log : List Entry) (p : Pid) (a : Audited) : Type 0 where
  pub unended : IsUnended system log p
  pub led : goes_on p (what e) ≡ true → IsLedBy e system log p a
  pub ahead : goes_on p (what e) ≡ true → changes p (what e) ≡ false → IsAhead (state_of a.process) a.ahead

abbrev pub IsLed : Entry → System → List Entry → Pid → Option Audited → Type 0
IsLed e system log p None = is_some (unended_at (placement system log) p) ≡ false
IsLed e system log p (Some a) = IsLedOf e system log p a

abbrev pub AreLed : Entry → System → List Entry → List (ℕ × Audited) → Type 0
AreLed e system log processes = (p : Pid) → IsLed e system log p (kept_at processes p)

-- an entry bears this process, as it stands then; or it bears none
abbrev pub BearsAs : System → List Entry → Entry → Option Process → Type 0
BearsAs system log e None = (p : Pid) → is_birth_of p (what e) ≡ false
BearsAs system log e (Some child) =
    (p : Pid) → is_birth_of p (what e) ≡ true → process_after system (log ++ e ∷ []) p ≡ Some (state_of child)
