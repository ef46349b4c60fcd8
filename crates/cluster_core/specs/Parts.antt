-- The parts of a cluster as its code keeps them.
use Rattle.std.specs.Prelude.{ℕ, ◌≡◌, ◌<◌, ◌≤◌, true, false, List, [], ◌∷◌, is_some, ⊤}
use Rattle.std.specs.List.{list_all}
use Rattle.std.specs.Option.{IfSome}
use Rattle.t32_base.specs.declared.process.Pid.{Pid}
use Rattle.t32_base.specs.declared.process.ClusterNo.{ClusterNo}
use Rattle.sys_text.specs.declared.system.System.{System}
use Rattle.sys_text.specs.Valid.{is_system}
use Rattle.proc_state.specs.declared.process.Process.{Process}
use Rattle.bus_msg.specs.declared.entry.Post.{Post}
use Rattle.bus_msg.specs.Places.{Places}
use Rattle.cert_sched.specs.Losses.{is_from}
use Rattle.page_waits.specs.Waiting.{WaitingState, is_whole}
use Rattle.residents.specs.Duty.{DutyView}
use Rattle.residents.specs.Owing.{duty_in}
use Rattle.residents.specs.Held.{Held, Runs, Rolls, Waits}
use Rattle.cluster_core.specs.Sent.{is_sent}
use Rattle.cluster_core.specs.View.{limits_of}

-- a process that stands under its own pid, to which no more letters came than the cluster took entries in
pub record IsOwn (cursor : ℕ) (pid : Pid) (p : Process) : Type 0 where
  pub pid_is : (p.small).pid ≡ pid
  pub arrived : (p.mail).next ≤ cursor

-- a process that waits under its own pid: where its record has a state, that is its own, and it lacks a page; no more letters came to it than the cluster took entries in
pub record WaitsOwn (cursor : ℕ) (pid : Pid) (w : WaitingState) : Type 0 where
  pub pid_is : (w.kept).pid ≡ pid
  pub state : IfSome (w.kept).state (λ small. small.pid ≡ pid)
  pub arrived : (w.kept).next ≤ cursor
  pub lacks : is_some (w.kept).state ≡ true → is_whole w ≡ false

-- each is its own
abbrev pub IsHeldOwn : ℕ → Pid → Held → Type 0
IsHeldOwn cursor pid (Runs p) = IsOwn cursor pid p
IsHeldOwn cursor pid (Rolls p counts births) = IsOwn cursor pid p
IsHeldOwn cursor pid (Waits waiting) = WaitsOwn cursor pid waiting

abbrev pub AllOwn : ℕ → List (Pid × Held) → Type 0
AllOwn cursor [] = ⊤
AllOwn cursor (e ∷ here) = IsHeldOwn cursor e.0 e.1 × AllOwn cursor here

-- the system is valid and has the cluster, whose processes synchronise by its limits, and are to get the new backups that they get by where they are placed; its processes are its own, and its posts are its own and of kinds that clusters send
pub record IsSound (system : System) (number : ClusterNo) (cursor : ℕ) (places : Places) (duty : DutyView) (here : List (Pid × Held)) (queue : List Post) : Type 0 where
  pub valid : is_system system ≡ true
  pub has : number.0 < system.clusters
  pub duty_are : duty ≡ duty_in (limits_of system) places here
  pub residents : AllOwn cursor here
  pub own : list_all (λ (post : Post). is_from number post.by) queue ≡ true
  pub of_kind : list_all (λ (post : Post). is_sent post.what) queue ≡ true
