-- A process here gets its new backup after it has run: the rest of what brings it is queued.
use Rattle.std.specs.Prelude.{ℕ, ◌≡◌, true, false, List, [], ◌∷◌, ◌++◌, map, Option, Some, None, replicate}
use Rattle.std.specs.Option.{IfSome}
use Rattle.t32_base.specs.declared.process.Pid.{Pid}
use Rattle.t32_base.specs.declared.process.ClusterNo.{ClusterNo}
use Rattle.sys_text.specs.declared.system.System.{System}
use Rattle.proc_state.specs.declared.process.Process.{Process}
use Rattle.proc_state.specs.State.{ProcState, state_of}
use Rattle.bus_msg.specs.declared.entry.Entry.{Entry}
use Rattle.bus_msg.specs.declared.entry.Post.{Post}
use Rattle.bus_msg.specs.NewBackup.{next_backup_at}
use Rattle.cert_sched.specs.Rules.{keeps_limits}
use Rattle.cert_sched.specs.Schedule.{placement}
use Rattle.checkpoint_laws.specs.batches.Underway.{PagesMay, page_left}
use Rattle.backup_mode.specs.Posts.{fresh_post}
use Rattle.backup_laws.specs.Posts.{CountsFrom}
use Rattle.cluster_core.specs.View.{ClusterView, held_at}
use Rattle.residents.specs.Held.{Runs}

-- its new backup, if that has not fallen
abbrev pub fresh_left : ClusterNo → Option ClusterNo → Pid → ProcState → List Post
fresh_left k None p s = []
fresh_left k (Some to) p s = fresh_post k to p s ∷ []

-- each of these pages of the process as it is, and then that
abbrev pub renewing_left : ClusterNo → Option ClusterNo → Pid → ProcState → List ℕ → List Post
renewing_left k to p s indices = map (page_left k p s) indices ++ fresh_left k to p s

-- All that is queued are these pages of the process, which are left of what was under way in the log, and its new backup, if that has not fallen. The process runs here
-- within its limits, as the posts say, without a mark; it counts from its start and has read what the log says.
pub record Renews (system : System) (log : List Entry) (c : ClusterView) : Type 0 where
  pub pid : Pid
  pub process : Process
  pub to : Option ClusterNo
  pub indices : List ℕ
  pub posts : c.queue ≡ renewing_left c.number to pid (state_of process) indices
  pub there : held_at c pid ≡ Some (Runs process)
  pub owed : IfSome to (λ k. next_backup_at (placement system log) pid ≡ Some k)
  pub within : keeps_limits system log pid (state_of process) ≡ true
  pub may : PagesMay system log c.number pid (state_of process) indices
  pub counts : CountsFrom system log pid process
  pub unmarked : (process.ram).dirty ≡ replicate (process.small).pages false
