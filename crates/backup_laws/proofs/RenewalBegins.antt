-- What a process sends for its new backup: its marked pages, and its record as it is.
use Rattle.std.proofs.Common.{◌≡◌, List, [], ◌∷◌, ◌++◌, map}
use Rattle.t32_base.specs.declared.process.Pid.{Pid}
use Rattle.t32_base.specs.declared.process.ClusterNo.{ClusterNo}
use Rattle.sys_text.specs.declared.system.System.{System}
use Rattle.rv_mem.specs.Memory.{page_at}
use Rattle.proc_state.specs.declared.process.Process.{Process}
use Rattle.proc_state.specs.State.{state_of}
use Rattle.bus_msg.specs.declared.entry.What.TheVariants.{Page}
use Rattle.bus_msg.specs.declared.entry.By.TheVariants.{Cluster}
use Rattle.bus_msg.specs.declared.entry.Post.{Post}
use Rattle.bus_msg.specs.declared.entry.Entry.{Entry}
use Rattle.sync_point.specs.Batch.{marked_pages}
use Rattle.checkpoint_laws.specs.posts.Running.{RunsMarked}
use Rattle.checkpoint_laws.proofs.posts.BatchStands.{own_pid}
use Rattle.backup_mode.specs.Posts.{fresh_post}
use Rattle.backup_mode.specs.Renewal.{renewal}
use Rattle.backup_laws.specs.Posts.{renewal_left}

pub renewal_posts : (system : System) (log : List Entry) (p : Pid) (process : Process) (to by : ClusterNo) → RunsMarked system log p process → renewal process to by ≡ renewal_left by to p (state_of process) (marked_pages process)
renewal_posts system log p process to by runs =
    let own : (process.small).pid ≡ p = own_pid system log p (state_of process) (process.small).steps runs.reached in
    λ j. map (λ i. let post : Post = record { by = Cluster by; what = Page (own j) (process.small).steps i (page_at (process.ram).bytes i) } in post) (marked_pages process)
    ++ fresh_post by to (own j) (state_of process) ∷ []
