-- A process here that is to have a child: its birth is queued while it stands before its fork, which is made where the birth is taken in.
use Rattle.std.specs.Prelude.{◌≡◌, ◌+◌, false, List, [], ◌∷◌, Some, option_map}
use Rattle.t32_base.specs.declared.process.Pid.{Pid}
use Rattle.t32_base.specs.declared.process.ClusterNo.{ClusterNo}
use Rattle.sys_text.specs.declared.system.System.{System}
use Rattle.proc_state.specs.declared.process.Process.{Process}
use Rattle.proc_state.specs.State.{ProcState, state_of}
use Rattle.sys_calls.specs.Calls.{Forks}
use Rattle.sys_calls.specs.Fork.{next_end}
use Rattle.sys_calls.specs.Next.{next_step}
use Rattle.bus_msg.specs.declared.entry.What.TheVariants.{Birth}
use Rattle.bus_msg.specs.declared.entry.By.TheVariants.{Cluster}
use Rattle.bus_msg.specs.declared.entry.Entry.{Entry}
use Rattle.bus_msg.specs.declared.entry.Post.{Post}
use Rattle.bus_msg.specs.Places.{unended_at}
use Rattle.cert_sched.specs.Kinds.{next_child_at}
use Rattle.cert_sched.specs.Schedule.{placement}
use Rattle.sync_point.specs.Due.{is_due_by}
use Rattle.cluster_core.specs.View.{ClusterView, held_at}
use Rattle.residents.specs.Held.{Runs}

-- the birth of a child of a process that stands before its fork
abbrev pub birth_post : ClusterNo → Pid → ProcState → Pid → Post
birth_post k p s child = record { by = Cluster k; what = Birth p ((s.small).steps + 1) child (next_end s) }

-- All that is queued is the birth of the next child of a process that runs here, stands before its fork and is not due by its limits.
pub record BearsChild (system : System) (log : List Entry) (c : ClusterView) : Type 0 where
  pub pid : Pid
  pub process : Process
  pub child : Pid
  pub posts : c.queue ≡ birth_post c.number pid (state_of process) child ∷ []
  pub there : held_at c pid ≡ Some (Runs process)
  pub stands : next_step (state_of process) ≡ Forks
  pub undue : is_due_by process system.syncreads system.syncsteps ≡ false
  pub next : option_map (next_child_at (placement system log)) (unended_at (placement system log) pid) ≡ Some child
