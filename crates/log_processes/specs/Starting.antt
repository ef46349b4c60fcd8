-- Where processes start.
use Rattle.std.specs.Prelude.{◌≡◌, true, List, [], ◌∷◌, ◌++◌, Some}
use Rattle.t32_base.specs.declared.process.Pid.{Pid}
use Rattle.sys_text.specs.declared.system.System.{System}
use Rattle.proc_state.specs.State.{ProcState}
use Rattle.plain_kernel.specs.Kernel.{boot, process_at}
use Rattle.bus_msg.specs.declared.entry.Entry.{Entry}
use Rattle.cert_sched.specs.Schedule.{process_after}
use Rattle.cert_sched.specs.Deeds.{starts}
use Rattle.log_audit.specs.Front.{FrontState, IsFrontOf}
use Rattle.log_processes.specs.declared.sender.Limits.{Limits}
use Rattle.log_processes.specs.declared.sender.Sender.{Sender}
use Rattle.log_processes.specs.Sending.{AreLimits, KeepsProcess, KeepsSender}

-- this is kept of each root of each system at boot
abbrev pub IsKeptAtBoot : Sender → Type 0
IsKeptAtBoot kept = (system : System) (front : FrontState) (limits : Limits) (p : Pid) (s : ProcState) → IsFrontOf system [] front → AreLimits limits system → process_at (boot system) p ≡ Some s
    → KeepsSender front limits p s kept system []

-- these counts are kept of a process that stands so, after each entry from which it starts again, as its birth and its cuts are
abbrev pub BeginsAgain : ProcState → Sender → Type 0
BeginsAgain s kept = (system : System) (log : List Entry) (e : Entry) (p : Pid) → starts p e ≡ true → process_after system (log ++ e ∷ []) p ≡ Some s → KeepsProcess p s kept.start kept.saved system (log ++ e ∷ [])
