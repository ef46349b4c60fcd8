-- A process that runs with its marks counts its steps and its reads as the log does.
use Rattle.std.proofs.Common.{◌≡◌, ◌-◌, sym, ◌∙◌, ap, List, [], length, ◌&&◌}
use Rattle.std.specs.Prelude.{nat_le}
use Rattle.t32_base.specs.declared.process.Pid.{Pid}
use Rattle.sys_text.specs.declared.system.System.{System}
use Rattle.proc_state.specs.declared.process.Process.{Process}
use Rattle.proc_state.specs.State.{state_of}
use Rattle.bus_msg.specs.declared.entry.Entry.{Entry}
use Rattle.cert_sched.specs.Steps.{reads_since, steps_since}
use Rattle.cert_sched.specs.Rules.{keeps_limits}
use Rattle.checkpoint_laws.specs.posts.Running.{RunsMarked}
use Rattle.checkpoint_laws.proofs.posts.MarksLead.{marks_reads, rising_length}
use Rattle.checkpoint_laws.specs.limits.Within.{is_within_by}

-- ---- as many numbers in rising order

-- ---- the counts

-- it has read as many letters as it remembers
pub own_reads : (system : System) (log : List Entry) (p : Pid) (process : Process) → RunsMarked system log p process → reads_since system log p (state_of process) ≡ length process.read
own_reads system log p process runs = sym (ap length (marks_reads system log p process runs)) ∙ rising_length process.read

-- and has made as many steps
pub own_steps : (system : System) (log : List Entry) (p : Pid) (process : Process) → RunsMarked system log p process → steps_since system log p (state_of process) ≡ (process.small).steps - process.since
own_steps system log p process runs = ap (λ n. (process.small).steps - n) (sym (runs.marked).since_start)

pub own_limits : (system : System) (log : List Entry) (p : Pid) (process : Process) → RunsMarked system log p process
    → keeps_limits system log p (state_of process) ≡ is_within_by process system.syncreads system.syncsteps
own_limits system log p process runs =
    λ j. nat_le (own_steps system log p process runs j) system.syncsteps && nat_le (own_reads system log p process runs j) system.syncreads
