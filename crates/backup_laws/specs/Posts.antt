-- When the posts by which processes get new backups may be sent.
use Rattle.std.specs.Prelude.{ℕ, ◌≡◌, true, false, List, [], ◌∷◌, ◌++◌, map, Some}
use Rattle.t32_base.specs.declared.process.Pid.{Pid}
use Rattle.t32_base.specs.declared.process.ClusterNo.{ClusterNo}
use Rattle.t32_base.specs.declared.letter.BackRec.{BackRec}
use Rattle.sys_text.specs.declared.system.System.{System}
use Rattle.proc_state.specs.declared.process.Process.{Process}
use Rattle.proc_state.specs.State.{ProcState}
use Rattle.bus_msg.specs.declared.entry.By.TheVariants.{Cluster}
use Rattle.bus_msg.specs.declared.entry.Post.{Post}
use Rattle.bus_msg.specs.declared.entry.Entry.{Entry}
use Rattle.bus_msg.specs.NewBackup.{next_backup_at}
use Rattle.cert_sched.specs.Parts.{rising}
use Rattle.cert_sched.specs.Schedule.{placement}
use Rattle.cert_sched.specs.Record.{backup_record, has_state}
use Rattle.cert_sched.specs.Account.{account_after, all_pages}
use Rattle.cert_sched.specs.Family.{unsynced_family}
use Rattle.cert_sched.specs.Kinds.{ChildrenSynced}
use Rattle.cert_sched.specs.Rules.{has_awaited_backup, is_by_home, is_over}
use Rattle.cert_sched.specs.Steps.{numbers_read, saved_of, start_steps}
use Rattle.checkpoint_laws.specs.posts.Marked.{arrived_below}
use Rattle.checkpoint_laws.specs.batches.Underway.{page_left}
use Rattle.backup_mode.specs.Posts.{fresh_post}

-- ---- the post of one that has run

-- each of these pages of the process as it is, and then its new backup
abbrev pub renewal_left : ClusterNo → ClusterNo → Pid → ProcState → List ℕ → List Post
renewal_left k to p s indices = map (page_left k p s) indices ++ fresh_post k to p s ∷ []

-- it counts from the steps of its start, and has read these letters of those that arrived since
pub record CountsFrom (system : System) (log : List Entry) (p : Pid) (process : Process) : Type 0 where
  pub since_start : process.since ≡ start_steps system log p
  pub read : rising process.read ≡ numbers_read (arrived_below (process.mail).next (saved_of system log p)) (process.mail).letters

-- it is owed this backup, its children have synchronised, and the pages that came are its memory
pub record MayRenew (system : System) (log : List Entry) (p : Pid) (s : ProcState) (to : ClusterNo) : Type 0 where
  pub backup : next_backup_at (placement system log) p ≡ Some to
  pub children : ChildrenSynced system log p
  pub account : (account_after system log p).now ≡ all_pages s.memory

-- ---- the post of a family that was moved

-- Its home k, which lives, holds the records of the log of the process and its family, in which the process has a state and waits for its new backup.
pub record MayHandOn (system : System) (log : List Entry) (k to : ClusterNo) (first : BackRec) (rest : List BackRec) : Type 0 where
  pub goes_on : is_over system log ≡ false
  pub by_home : is_by_home (placement system log) (Cluster k) (Some first.pid) ≡ true
  pub waits : has_awaited_backup system log first.pid ≡ false
  pub stated : has_state system log first.pid ≡ true
  pub backup : next_backup_at (placement system log) first.pid ≡ Some to
  pub family : rising (map (λ (r : BackRec). (r.pid).0) (first ∷ rest)) ≡
      rising (map (λ (q : Pid). q.0) (unsynced_family system log first.pid))
  pub records : map Some (first ∷ rest) ≡ map (λ (r : BackRec). backup_record system log r.pid) (first ∷ rest)
