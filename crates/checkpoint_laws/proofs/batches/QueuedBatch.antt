-- What the log says with the rest of a batch at its end: every other process has the marks that it had, and the pages were sent up to where they were.
use Rattle.std.proofs.Common.{◌≡◌, ℕ, ◌+◌, ◌≤◌, refl, sym, ◌∙◌, ap, arith, List, [], ◌∷◌, ◌++◌, map, true, false, None, is_some, Option}
use Rattle.t32_base.specs.declared.process.Pid.{Pid}
use Rattle.t32_base.specs.declared.process.ClusterNo.{ClusterNo}
use Rattle.t32_base.proofs.Facts.{or_first}
use Rattle.sys_text.specs.declared.system.System.{System}
use Rattle.sys_text.specs.Valid.{is_system}
use Rattle.rv_mem.specs.Memory.{page_at}
use Rattle.proc_state.specs.declared.process.Process.{Process}
use Rattle.proc_state.specs.State.{ProcState}
use Rattle.bus_msg.specs.declared.entry.Post.{Post}
use Rattle.bus_msg.specs.declared.entry.Entry.{Entry}
use Rattle.bus_msg.specs.Places.{same_pid, unended_at}
use Rattle.bus_msg.specs.PlacedAfter.{what}
use Rattle.cert_sched.specs.Appended.{entry_of}
use Rattle.cert_sched.specs.Deeds.{arrived_count}
use Rattle.cert_sched.specs.Moved.{any_since_moved}
use Rattle.cert_sched.specs.Legal.{IsLegalBy, Stands}
use Rattle.cert_sched.specs.Simulation.{IsUnended}
use Rattle.cert_sched.specs.Told.{cluster_lost}
use Rattle.cert_sched.proofs.LogLaws.{IsLegal-snoc}
use Rattle.cert_sched.proofs.RecordLaws.{arrived_count-other}
use Rattle.log_laws.proofs.pages.OneEntry.{any_since-goes_on, moves_none}
use Rattle.checkpoint_laws.specs.posts.Batched.{AllStand, log_with}
use Rattle.checkpoint_laws.specs.posts.Marked.{IsMarked}
use Rattle.checkpoint_laws.proofs.posts.PageEntry.{page_places}
use Rattle.checkpoint_laws.specs.marks.Sent.{SentUpto, is_later_page}
use Rattle.checkpoint_laws.proofs.marks.EntryMarks.{marks_kept, marks_before}
use Rattle.checkpoint_laws.specs.batches.Underway.{BatchMay, page_left, posts_left, sync_left}
use Rattle.checkpoint_laws.proofs.batches.BatchAndOthers.{page_beside, sync_beside}
use Rattle.checkpoint_laws.proofs.batches.LaterPages.{own_upto, others_upto, sync_upto}
use Rattle.checkpoint_laws.proofs.batches.RestStands.{rest_stands}

-- ---- the marks of another process

-- Pages of a process that are sent leave them, whatever is sent behind the pages does so too.
module _ (system : System) (k : ClusterNo) (p q : Pid) (s : ProcState) (process : Process) (valid : is_system system ≡ true) (apart : same_pid p q ≡ false) (behind : List Post) where
  abbrev page_of : ℕ → Post
  page_of = page_left k p s

  -- a page leaves it there, and brings it no letter
  unended_on : (log : List Entry) (i : ℕ) → IsUnended system log q → IsUnended system (log ++ entry_of system log (page_of i) ∷ []) q
  unended_on log i unended = ap (λ places. is_some (unended_at places q)) (page_places system log (entry_of system log (page_of i)) p (s.small).steps i (page_at s.memory i) refl) ∙ unended

  low_on : (log : List Entry) (i : ℕ) → (process.mail).next ≤ arrived_count log q → (process.mail).next ≤ arrived_count (log ++ entry_of system log (page_of i) ∷ []) q
  low_on log i low =
      let count : arrived_count (log ++ entry_of system log (page_of i) ∷ []) q ≡ arrived_count log q + 0 = arrived_count-other log (entry_of system log (page_of i)) q refl in
      omega (arith, low, count)

  pub pages_kept : ((log : List Entry) → IsLegalBy Stands system log → IsUnended system log q → (process.mail).next ≤ arrived_count log q → IsMarked system log q process → IsMarked system (log_with system log behind) q process)
      → (log : List Entry) (indices : List ℕ) → IsLegalBy Stands system log → AllStand system log (map page_of indices ++ behind) → IsUnended system log q → (process.mail).next ≤ arrived_count log q
      → IsMarked system log q process → IsMarked system (log_with system log (map page_of indices ++ behind)) q process
  pages_kept last log [] legal stand unended low marked = last log legal unended low marked
  pages_kept last log (i ∷ js) legal stand unended low marked =
      pages_kept last (log ++ entry_of system log (page_of i) ∷ []) js (IsLegal-snoc Stands system log (entry_of system log (page_of i)) legal stand.0) stand.1 (unended_on log i unended) (low_on log i low)
      (marks_kept system log (entry_of system log (page_of i)) q process valid legal unended (page_beside system log k p q s i apart) low marked)

  pub pages_before : ((log : List Entry) → IsLegalBy Stands system log → IsUnended system log q → (process.mail).next ≤ arrived_count log q → IsMarked system (log_with system log behind) q process → IsMarked system log q process)
      → (log : List Entry) (indices : List ℕ) → IsLegalBy Stands system log → AllStand system log (map page_of indices ++ behind) → IsUnended system log q → (process.mail).next ≤ arrived_count log q
      → IsMarked system (log_with system log (map page_of indices ++ behind)) q process → IsMarked system log q process
  pages_before last log [] legal stand unended low marked = last log legal unended low marked
  pages_before last log (i ∷ js) legal stand unended low marked =
      marks_before system log (entry_of system log (page_of i)) q process valid legal unended (page_beside system log k p q s i apart) low
      (pages_before last (log ++ entry_of system log (page_of i) ∷ []) js (IsLegal-snoc Stands system log (entry_of system log (page_of i)) legal stand.0) stand.1 (unended_on log i unended) (low_on log i low) marked)

-- so does the rest of a batch
module _ (system : System) (k : ClusterNo) (p q : Pid) (s : ProcState) (read : List ℕ) (took : Option ℕ) (process : Process) (valid : is_system system ≡ true) (apart : same_pid p q ≡ false) where
  abbrev cut : Post
  cut = sync_left k p s read took

  pub queued_kept : (log : List Entry) (indices : List ℕ) → IsLegalBy Stands system log → BatchMay system log k p s read took indices → IsUnended system log q → (process.mail).next ≤ arrived_count log q
      → IsMarked system log q process → IsMarked system (log_with system log (posts_left k p s read took indices)) q process
  queued_kept log indices legal b =
      pages_kept system k p q s process valid apart (cut ∷ [])
      (λ log legal unended low. marks_kept system log (entry_of system log cut) q process valid legal unended (sync_beside system log k p q s read took apart) low)
      log indices legal (rest_stands system log k p s read took indices valid legal b)

  pub queued_before : (log : List Entry) (indices : List ℕ) → IsLegalBy Stands system log → BatchMay system log k p s read took indices → IsUnended system log q → (process.mail).next ≤ arrived_count log q
      → IsMarked system (log_with system log (posts_left k p s read took indices)) q process → IsMarked system log q process
  queued_before log indices legal b =
      pages_before system k p q s process valid apart (cut ∷ [])
      (λ log legal unended low. marks_before system log (entry_of system log cut) q process valid legal unended (sync_beside system log k p q s read took apart) low)
      log indices legal (rest_stands system log k p s read took indices valid legal b)

-- ---- the pages that were sent

-- before an entry that loses no cluster no more were sent
pub sent_before : (system : System) (log : List Entry) (e : Entry) (q : Pid) (n : ℕ) → cluster_lost (what e) ≡ None → SentUpto system (log ++ e ∷ []) q n → SentUpto system log q n
sent_before system log e q n none upto =
    or_first (any_since_moved system log q (is_later_page q n)) (is_later_page q n (what e)) (sym (any_since-goes_on system log e q (is_later_page q n) (moves_none system log e none q)) ∙ upto)

-- of pages and what is behind them, where that is no page
module _ (system : System) (k : ClusterNo) (p : Pid) (s : ProcState) (n : ℕ) (behind : List Post) where
  pub pages_own : ((log : List Entry) → SentUpto system log p n → SentUpto system (log_with system log behind) p n) → (log : List Entry) (indices : List ℕ) → (s.small).steps ≤ n → SentUpto system log p n
      → SentUpto system (log_with system log (map (page_left k p s) indices ++ behind)) p n
  pages_own last log [] low upto = last log upto
  pages_own last log (i ∷ js) low upto = pages_own last (log ++ entry_of system log (page_left k p s i) ∷ []) js low (own_upto system log k p s i n low upto)

  module _ (q : Pid) where
    pub pages_others : ((log : List Entry) → SentUpto system log q n → SentUpto system (log_with system log behind) q n) → (log : List Entry) (indices : List ℕ) → same_pid p q ≡ false → SentUpto system log q n
        → SentUpto system (log_with system log (map (page_left k p s) indices ++ behind)) q n
    pages_others last log [] apart upto = last log upto
    pages_others last log (i ∷ js) apart upto = pages_others last (log ++ entry_of system log (page_left k p s i) ∷ []) js apart (others_upto system log k p s q i n apart upto)

    pub pages_sent_before : ((log : List Entry) → SentUpto system (log_with system log behind) q n → SentUpto system log q n) → (log : List Entry) (indices : List ℕ)
        → SentUpto system (log_with system log (map (page_left k p s) indices ++ behind)) q n → SentUpto system log q n
    pages_sent_before last log [] upto = last log upto
    pages_sent_before last log (i ∷ js) upto =
        sent_before system log (entry_of system log (page_left k p s i)) q n refl (pages_sent_before last (log ++ entry_of system log (page_left k p s i) ∷ []) js upto)

module _ (system : System) (k : ClusterNo) (p : Pid) (s : ProcState) (read : List ℕ) (took : Option ℕ) (n : ℕ) where
  pub queued_own : (log : List Entry) (indices : List ℕ) → (s.small).steps ≤ n → SentUpto system log p n → SentUpto system (log_with system log (posts_left k p s read took indices)) p n
  queued_own = pages_own system k p s n (sync_left k p s read took ∷ []) (λ log. sync_upto system log k p s p read took n)

  module _ (q : Pid) where
    pub queued_others : (log : List Entry) (indices : List ℕ) → same_pid p q ≡ false → SentUpto system log q n → SentUpto system (log_with system log (posts_left k p s read took indices)) q n
    queued_others = pages_others system k p s n (sync_left k p s read took ∷ []) q (λ log. sync_upto system log k p s q read took n)

    pub queued_sent_before : (log : List Entry) (indices : List ℕ) → SentUpto system (log_with system log (posts_left k p s read took indices)) q n → SentUpto system log q n
    queued_sent_before = pages_sent_before system k p s n (sync_left k p s read took ∷ []) q (λ log. sent_before system log (entry_of system log (sync_left k p s read took)) q n refl)
