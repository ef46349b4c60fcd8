-- The posts that are left of a batch, as they stand in a queue.
use Rattle.std.proofs.Common.{◌≡◌, ℕ, ◌≤◌, refl, sym, ◌∙◌, ap, subst, arith, List, [], ◌∷◌, ◌++◌, length, Bool, true, false, cond, ◌&&◌, eq-eqb, Option, Some, None}
use Rattle.std.specs.Prelude.{option_map, replicate}
use Rattle.std.specs.List.{list_all}
use Rattle.std.proofs.lemmas.List.{length-replicate}
use Rattle.t32_base.specs.declared.process.Pid.{Pid}
use Rattle.t32_base.specs.declared.process.ClusterNo.{ClusterNo}
use Rattle.sys_text.specs.declared.system.System.{System}
use Rattle.sys_text.specs.Valid.{is_system}
use Rattle.proc_state.specs.declared.process.Process.{Process}
use Rattle.proc_state.specs.State.{ProcState, state_of}
use Rattle.bus_msg.specs.declared.entry.What.TheVariants.{Sync}
use Rattle.bus_msg.specs.declared.entry.Post.{Post}
use Rattle.bus_msg.specs.declared.entry.Entry.{Entry}
use Rattle.bus_msg.specs.Places.{same_pid}
use Rattle.bus_msg.specs.PlacedAfter.{what}
use Rattle.cert_sched.specs.Appended.{entry_of}
use Rattle.cluster_core.specs.Sent.{SentMayStand}
use Rattle.cert_sched.specs.Deeds.{arrived_count}
use Rattle.cert_sched.specs.Legal.{IsLegalBy, Stands, KeepsLimits}
use Rattle.cert_sched.specs.Losses.{is_by_cluster, is_from, is_page_is_entry, least_calls}
use Rattle.cert_sched.specs.Rules.{has_its_pages}
use Rattle.cert_sched.specs.Simulation.{IsUnended}
use Rattle.log_laws.proofs.pages.Keeping.{pages_kept}
use Rattle.log_laws.proofs.pages.OneEntry.{moves_none}
use Rattle.checkpoint_laws.specs.posts.Batched.{AllNew, AllStand, log_with}
use Rattle.checkpoint_laws.specs.marks.Sent.{SentUpto}
use Rattle.checkpoint_laws.specs.batches.Underway.{BatchMay, page_left, posts_left, sync_left}
use Rattle.checkpoint_laws.proofs.batches.QueuedBatch.{queued_before, queued_kept, queued_others, queued_own, queued_sent_before}
use Rattle.checkpoint_laws.proofs.batches.RestMarks.{rest_marks}
use Rattle.checkpoint_laws.proofs.batches.RestStands.{rest_is_new, rest_stands}
use Rattle.checkpoint_laws.specs.limits.Within.{AllKeepLimits}
use Rattle.checkpoint_laws.proofs.limits.RestLimits.{rest_keeps_limits}
use Rattle.cluster_core.specs.Queue.{IsQueueLegal, move_of, with_queue}
use Rattle.cluster_core.specs.Holds.{CarriesMarks, MarkedIfThere, is_fetch_queued}
use Rattle.cluster_core.proofs.absorbing.Counted.{count_by-snoc}

module _ (k : ClusterNo) (p : Pid) (s : ProcState) (read : List ℕ) (took : Option ℕ) where
  -- Each post is sent by the cluster.
  pub batch_own : (indices : List ℕ) → list_all (λ (post : Post). is_from k post.by) (posts_left k p s read took indices) ≡ true
  batch_own [] = ap (λ b. b && true) (eq-eqb k.0 k.0 refl)
  batch_own (i ∷ js) = ap (λ b. b && list_all (λ (post : Post). is_from k post.by) (posts_left k p s read took js)) (eq-eqb k.0 k.0 refl) ∙ batch_own js

  -- The posts tell of no steps of another process.
  pub batch_moves_other : (q : Pid) (indices : List ℕ) → same_pid p q ≡ false → move_of q (posts_left k p s read took indices) ≡ None
  batch_moves_other q [] apart = ap (λ b. option_map (λ (post : Post). post.what) (cond b (Some (sync_left k p s read took)) None)) apart
  batch_moves_other q (i ∷ js) apart = batch_moves_other q js apart

  -- The last post tells of the steps of the process.
  pub batch_moves : (indices : List ℕ) → move_of p (posts_left k p s read took indices) ≡ Some (Sync p s.small read took)
  batch_moves [] = ap (λ b. option_map (λ (post : Post). post.what) (cond b (Some (sync_left k p s read took)) None)) (eq-eqb p.0 p.0 refl)
  batch_moves (i ∷ js) = batch_moves js

  -- None asks for a page.
  pub batch_fetches_none : (q : Pid) (i : ℕ) (indices : List ℕ) → is_fetch_queued q (posts_left k p s read took indices) i ≡ false
  batch_fetches_none q i [] = refl
  batch_fetches_none q i (j ∷ js) = batch_fetches_none q i js

  module _ (system : System) where
    -- All of them stand in the log with the queue.
    pub batch_log : (log : List Entry) (indices : List ℕ) → with_queue system log (posts_left k p s read took indices) ≡ log_with system log (posts_left k p s read took indices)
    batch_log log [] = refl
    batch_log log (i ∷ js) = batch_log (log ++ entry_of system log (page_left k p s i) ∷ []) js

    -- an entry that is no answer is no call of a disk
    pub calls_still : (heard log : List Entry) (e : Entry) (j : ClusterNo) → is_page_is_entry (what e) ≡ false → least_calls system heard (log ++ e ∷ []) j ≡ least_calls system heard log j
    calls_still heard log e j other =
        let answered = count_by-snoc (λ (e : Entry). is_page_is_entry (what e) && is_by_cluster j e) log e in
        let none : ◌≡◌ {A = ℕ} (cond (is_page_is_entry (what e) && is_by_cluster j e) 1 0) 0 = ap (λ (b : Bool). cond (b && is_by_cluster j e) 1 0) other in
        omega (arith, answered, none)

    -- No post is a call of a disk.
    pub batch_calls : (heard log : List Entry) (j : ClusterNo) (indices : List ℕ) → least_calls system heard (with_queue system log (posts_left k p s read took indices)) j ≡ least_calls system heard log j
    batch_calls heard log j [] = calls_still heard log (entry_of system log (sync_left k p s read took)) j refl
    batch_calls heard log j (i ∷ js) =
        batch_calls heard (log ++ entry_of system log (page_left k p s i) ∷ []) j js ∙ calls_still heard log (entry_of system log (page_left k p s i)) j refl

    -- the posts of a process that has its pages may follow where they stand, are new and keep the limits
    legal_so : (log : List Entry) (indices : List ℕ) → has_its_pages system log p ≡ true → AllStand system log (posts_left k p s read took indices) → AllNew system log (posts_left k p s read took indices) → AllKeepLimits system log (posts_left k p s read took indices) → IsQueueLegal SentMayStand system log (posts_left k p s read took indices)
    legal_so log [] has stand new keep = (record { stands = stand.0; of_kind = refl; limits = keep.0; new_page = new.0; pages = has }, tt)
    legal_so log (i ∷ js) has stand new keep =
        let e : Entry = entry_of system log (page_left k p s i) in (
          record { stands = stand.0; of_kind = refl; limits = keep.0; new_page = new.0; pages = has },
          legal_so (log ++ e ∷ []) js (pages_kept system log e p stand.0 refl (moves_none system log e refl p) has) stand.1 new.1 keep.1,
        )

    -- The posts of a process that has its pages and whose synchronisation keeps the limits may follow, one after the other.
    pub batch_legal : (log : List Entry) (indices : List ℕ) → is_system system ≡ true → IsLegalBy Stands system log → has_its_pages system log p ≡ true → KeepsLimits system log (Sync p s.small read took) → BatchMay system log k p s read took indices → IsQueueLegal SentMayStand system log (posts_left k p s read took indices)
    batch_legal log indices valid legal has keeps b =
        legal_so log indices has (rest_stands system log k p s read took indices valid legal b) (rest_is_new system log k p s read took indices b) (rest_keeps_limits system log k p s read took indices keeps)

    module _ (log : List Entry) (indices : List ℕ) (valid : is_system system ≡ true) (legal : IsLegalBy Stands system log) (b : BatchMay system log k p s read took indices) where
      -- Another process to which no more letters came than the log has for it carries with the posts the marks that it carried without,
      pub batch_marks_others : (q : Pid) (o : Option Process) → same_pid p q ≡ false → IsUnended system log q → ((process : Process) → o ≡ Some process → (process.mail).next ≤ arrived_count log q)
          → MarkedIfThere CarriesMarks system log q o → MarkedIfThere CarriesMarks system (with_queue system log (posts_left k p s read took indices)) q o
      batch_marks_others q None apart unended low m = tt
      batch_marks_others q (Some process) apart unended low m =
          subst (λ l. CarriesMarks system l q process) (sym (batch_log log indices))
          (record {
            marked = queued_kept system k p q s read took process valid apart log indices legal b unended (low process refl) m.marked;
            pages = m.pages;
            sent = queued_others system k p s read took (process.small).steps q log indices apart m.sent;
          })

      -- and the other way round.
      pub batch_marks_others_before : (q : Pid) (o : Option Process) → same_pid p q ≡ false → IsUnended system log q → ((process : Process) → o ≡ Some process → (process.mail).next ≤ arrived_count log q)
          → MarkedIfThere CarriesMarks system (with_queue system log (posts_left k p s read took indices)) q o → MarkedIfThere CarriesMarks system log q o
      batch_marks_others_before q None apart unended low m = tt
      batch_marks_others_before q (Some process) apart unended low m =
          let after : CarriesMarks system (log_with system log (posts_left k p s read took indices)) q process = subst (λ l. CarriesMarks system l q process) (batch_log log indices) m in
          record {
            marked = queued_before system k p q s read took process valid apart log indices legal b unended (low process refl) after.marked;
            pages = after.pages;
            sent = queued_sent_before system k p s read took (process.small).steps q log indices after.sent;
          }

      -- The process itself, without a mark and with no letter read since, carries the marks of one that was just synchronised.
      pub batch_marks_own : (process : Process) → state_of process ≡ s → process.read ≡ [] → process.since ≡ (process.small).steps → (process.ram).dirty ≡ replicate (process.small).pages false → SentUpto system log p (process.small).steps
          → CarriesMarks system (with_queue system log (posts_left k p s read took indices)) p process
      batch_marks_own process is unread since unmarked upto =
          let steps : (s.small).steps ≡ (process.small).steps = ap (λ (s : ProcState). (s.small).steps) (sym is) in
          let low : (s.small).steps ≤ (process.small).steps = omega (arith, steps) in
          subst (λ l. CarriesMarks system l p process) (sym (batch_log log indices))
          (record {
            marked = rest_marks system log k p s read took indices process (process.small).pages valid legal b is unread since unmarked;
            pages = sym (ap length unmarked ∙ length-replicate (process.small).pages false);
            sent = queued_own system k p s read took (process.small).steps log indices low upto;
          })
