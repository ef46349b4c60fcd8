-- A process here that synchronises: the rest of its batch is queued.
use Rattle.std.specs.Prelude.{ℕ, ◌≡◌, false, List, [], Option, Some, replicate}
use Rattle.t32_base.specs.declared.process.Pid.{Pid}
use Rattle.sys_text.specs.declared.system.System.{System}
use Rattle.proc_state.specs.declared.process.Process.{Process}
use Rattle.proc_state.specs.State.{state_of}
use Rattle.bus_msg.specs.declared.entry.Entry.{Entry}
use Rattle.bus_msg.specs.declared.entry.What.TheVariants.{Sync}
use Rattle.cert_sched.specs.Legal.{KeepsLimits}
use Rattle.checkpoint_laws.specs.batches.Underway.{BatchMay, posts_left}
use Rattle.cluster_core.specs.View.{ClusterView, held_at}
use Rattle.residents.specs.Held.{Runs}

-- All that is queued is the rest of a batch that is under way in the log: these pages of the process, and its state with these letters read and the signal that it took, if it took one. The process runs here as it is after that, without
-- a mark and with no letter read since, and its synchronisation keeps the limits.
pub record Synchronises (system : System) (log : List Entry) (c : ClusterView) : Type 0 where
  pub pid : Pid
  pub process : Process
  pub read : List ℕ
  pub took : Option ℕ
  pub indices : List ℕ
  pub posts : c.queue ≡ posts_left c.number pid (state_of process) read took indices
  pub there : held_at c pid ≡ Some (Runs process)
  pub within : KeepsLimits system log (Sync pid (process.small) read took)
  pub may : BatchMay system log c.number pid (state_of process) read took indices
  pub unread : process.read ≡ []
  pub since : process.since ≡ (process.small).steps
  pub unmarked : (process.ram).dirty ≡ replicate (process.small).pages false
