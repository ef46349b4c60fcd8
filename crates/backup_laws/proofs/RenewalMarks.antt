-- The marks of the processes behind the pages of one that gets a new backup.
use Rattle.std.proofs.Common.{◌≡◌, ◌≤◌, ℕ, refl, sym, ◌∙◌, ap, List, [], ◌∷◌, ◌++◌, map, true, false, Option, true≢false}
use Rattle.std.specs.Prelude.{replicate}
use Rattle.std.specs.Option.{option_map_or}
use Rattle.t32_base.specs.declared.process.Pid.{Pid}
use Rattle.t32_base.specs.declared.process.ClusterNo.{ClusterNo}
use Rattle.t32_base.specs.Account.{page_in}
use Rattle.sys_text.specs.declared.system.System.{System}
use Rattle.sys_text.specs.Valid.{is_system}
use Rattle.rv_mem.specs.Memory.{page_at}
use Rattle.proc_state.specs.declared.process.Process.{Process}
use Rattle.proc_state.specs.State.{ProcState, state_of}
use Rattle.bus_msg.specs.declared.entry.Entry.{Entry}
use Rattle.bus_msg.specs.Places.{same_pid}
use Rattle.cert_sched.specs.Appended.{entry_of}
use Rattle.cert_sched.specs.Deeds.{arrived_count}
use Rattle.cert_sched.specs.Steps.{numbers_read}
use Rattle.cert_sched.specs.Legal.{IsLegalBy, Stands}
use Rattle.cert_sched.specs.Simulation.{IsUnended}
use Rattle.cert_sched.proofs.LogLaws.{IsLegal-snoc}
use Rattle.checkpoint_laws.specs.posts.Batched.{AllStand, log_with}
use Rattle.checkpoint_laws.specs.posts.Marked.{IsMarked, arrived_below}
use Rattle.checkpoint_laws.specs.marks.Beside.{LeavesMarks}
use Rattle.checkpoint_laws.specs.marks.Sent.{SentUpto}
use Rattle.checkpoint_laws.proofs.marks.EntryMarks.{below_stay, marks_before, marks_kept, steps_stay}
use Rattle.checkpoint_laws.proofs.marks.SentPages.{sent_on}
use Rattle.checkpoint_laws.proofs.posts.CutMarks.{unmarked}
use Rattle.checkpoint_laws.proofs.posts.PageEntry.{page_saved, page_start}
use Rattle.checkpoint_laws.proofs.posts.WholePages.{page_found}
use Rattle.checkpoint_laws.specs.batches.Underway.{PagesMay, page_left}
use Rattle.checkpoint_laws.proofs.batches.PageSent.{pages_sent}
use Rattle.checkpoint_laws.proofs.batches.QueuedBatch.{pages_before, pages_kept, pages_others, pages_own, pages_sent_before, sent_before}
use Rattle.checkpoint_laws.proofs.batches.RestStands.{page_may_stand}
use Rattle.checkpoint_laws.proofs.batches.WholeAccount.{size_left, whole_left}
use Rattle.backup_mode.specs.Posts.{fresh_post}
use Rattle.backup_laws.specs.Posts.{CountsFrom, renewal_left}
use Rattle.backup_laws.proofs.RenewedMarks.{fresh_beside, fresh_marks}

-- ---- the process itself

-- A page leaves what it counts from.
counts_still : (system : System) (log : List Entry) (k : ClusterNo) (p : Pid) (s : ProcState) (i : ℕ) (process : Process) → CountsFrom system log p process → CountsFrom system (log ++ entry_of system log (page_left k p s i) ∷ []) p process
counts_still system log k p s i process counts =
    let page = entry_of system log (page_left k p s i) in
    record {
      since_start = counts.since_start ∙ sym (ap (λ (o : Option ProcState). option_map_or (λ (t : ProcState). (t.small).steps) o 0) (page_start system log page p (s.small).steps i (page_at s.memory i) refl p));
      read = counts.read ∙ sym (ap (λ saved. numbers_read (arrived_below (process.mail).next saved) (process.mail).letters) (page_saved system log page p (s.small).steps i (page_at s.memory i) refl p));
    }

pub pages_marked : (system : System) (k : ClusterNo) (p : Pid) (process : Process) (n : ℕ) → is_system system ≡ true → (process.ram).dirty ≡ replicate n false → (log : List Entry) (indices : List ℕ) → IsLegalBy Stands system log
    → PagesMay system log k p (state_of process) indices → CountsFrom system log p process → IsMarked system (log_with system log (map (page_left k p (state_of process)) indices)) p process
pages_marked system k p process n valid none log [] legal m counts = record {
  since_start = counts.since_start;
  read = counts.read;
  clean = λ i within other. ap (λ pages. page_in pages i) (whole_left system log k p (state_of process) valid legal m.may m.left)
      ∙ page_found (process.ram).bytes (process.small).pages i (size_left system log k p (state_of process) valid legal m.may m.left) within;
  unsent = λ i within marked. absurd (true≢false (sym marked ∙ unmarked (process.ram).dirty n i none));
}
pages_marked system k p process n valid none log (i ∷ js) legal m counts =
    let page = entry_of system log (page_left k p (state_of process) i) in
    pages_marked system k p process n valid none (log ++ page ∷ []) js (IsLegal-snoc Stands system log page legal (page_may_stand system log k p (state_of process) i js m))
    (pages_sent system log k p (state_of process) i js m) (counts_still system log k p (state_of process) i process counts)

-- Behind its new backup, as it is then, it has none of what it counted.
pub renewal_marked : (system : System) (k to : ClusterNo) (p : Pid) (process : Process) (n : ℕ) → is_system system ≡ true → process.read ≡ [] → process.since ≡ (process.small).steps → (process.ram).dirty ≡ replicate n false
    → (log : List Entry) (indices : List ℕ) → IsLegalBy Stands system log → PagesMay system log k p (state_of process) indices → IsMarked system (log_with system log (renewal_left k to p (state_of process) indices)) p process
renewal_marked system k to p process n valid no_read since none log [] legal m =
    fresh_marks system log k to p process n valid m.may (whole_left system log k p (state_of process) valid legal m.may m.left) no_read since none
renewal_marked system k to p process n valid no_read since none log (i ∷ js) legal m =
    let page = entry_of system log (page_left k p (state_of process) i) in
    renewal_marked system k to p process n valid no_read since none (log ++ page ∷ []) js (IsLegal-snoc Stands system log page legal (page_may_stand system log k p (state_of process) i js m)) (pages_sent system log k p (state_of process) i js m)

-- An entry that leaves its marks leaves what it counts from, and letters that come are not among those that it has read.
pub counts_kept : (system : System) (log : List Entry) (e : Entry) (p : Pid) (process : Process) → is_system system ≡ true → IsLegalBy Stands system log → IsUnended system log p → LeavesMarks system log e p
    → (process.mail).next ≤ arrived_count log p → CountsFrom system log p process → CountsFrom system (log ++ e ∷ []) p process
counts_kept system log e p process valid legal unended leaves low counts = record {
  since_start = counts.since_start ∙ sym (steps_stay system log e p leaves);
  read = counts.read ∙ sym (ap (λ saved. numbers_read saved (process.mail).letters) (below_stay system log e p leaves valid legal unended (process.mail).next low));
}

-- ---- the others

-- They are as they were behind the pages and the new backup,
module _ (system : System) (k to : ClusterNo) (p q : Pid) (s : ProcState) (process : Process) (valid : is_system system ≡ true) (apart : same_pid p q ≡ false) where
  pub renewal_kept : (log : List Entry) (indices : List ℕ) → IsLegalBy Stands system log → AllStand system log (renewal_left k to p s indices) → IsUnended system log q → (process.mail).next ≤ arrived_count log q
      → IsMarked system log q process → IsMarked system (log_with system log (renewal_left k to p s indices)) q process
  renewal_kept =
      pages_kept system k p q s process valid apart (fresh_post k to p s ∷ [])
      (λ log legal unended low. marks_kept system log (entry_of system log (fresh_post k to p s)) q process valid legal unended (fresh_beside system log k to p q s apart) low)

  -- and were so before them.
  pub renewal_before : (log : List Entry) (indices : List ℕ) → IsLegalBy Stands system log → AllStand system log (renewal_left k to p s indices) → IsUnended system log q → (process.mail).next ≤ arrived_count log q
      → IsMarked system (log_with system log (renewal_left k to p s indices)) q process → IsMarked system log q process
  renewal_before =
      pages_before system k p q s process valid apart (fresh_post k to p s ∷ [])
      (λ log legal unended low. marks_before system log (entry_of system log (fresh_post k to p s)) q process valid legal unended (fresh_beside system log k to p q s apart) low)

-- ---- the pages that were sent

-- a new backup is no page
fresh_upto : (system : System) (log : List Entry) (k to : ClusterNo) (p q : Pid) (s : ProcState) (n : ℕ) → SentUpto system log q n → SentUpto system (log ++ entry_of system log (fresh_post k to p s) ∷ []) q n
fresh_upto system log k to p q s n upto = sent_on system log q (entry_of system log (fresh_post k to p s)) n refl upto

module _ (system : System) (k to : ClusterNo) (p : Pid) (s : ProcState) (n : ℕ) where
  pub renewal_own : (log : List Entry) (indices : List ℕ) → (s.small).steps ≤ n → SentUpto system log p n → SentUpto system (log_with system log (renewal_left k to p s indices)) p n
  renewal_own = pages_own system k p s n (fresh_post k to p s ∷ []) (λ log. fresh_upto system log k to p p s n)

  module _ (q : Pid) where
    pub renewal_others : (log : List Entry) (indices : List ℕ) → same_pid p q ≡ false → SentUpto system log q n → SentUpto system (log_with system log (renewal_left k to p s indices)) q n
    renewal_others = pages_others system k p s n (fresh_post k to p s ∷ []) q (λ log. fresh_upto system log k to p q s n)

    pub renewal_sent_before : (log : List Entry) (indices : List ℕ) → SentUpto system (log_with system log (renewal_left k to p s indices)) q n → SentUpto system log q n
    renewal_sent_before = pages_sent_before system k p s n (fresh_post k to p s ∷ []) q (λ log. sent_before system log (entry_of system log (fresh_post k to p s)) q n refl)
