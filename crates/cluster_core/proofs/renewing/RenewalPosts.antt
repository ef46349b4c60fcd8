-- The posts that are left of what brings a process its new backup, as they stand in a queue.
use Rattle.std.proofs.Common.{◌≡◌, ℕ, ◌≤◌, refl, sym, ◌∙◌, ap, subst, arith, List, [], ◌∷◌, ◌++◌, map, length, Bool, true, false, cond, ◌&&◌, eq-eqb, Option, Some, None, true≢false}
use Rattle.std.specs.Prelude.{option_map, replicate}
use Rattle.std.specs.List.{list_all}
use Rattle.std.specs.Option.{IfSome}
use Rattle.std.proofs.lemmas.List.{append-nil, length-replicate}
use Rattle.t32_base.specs.declared.process.Pid.{Pid}
use Rattle.t32_base.specs.declared.process.ClusterNo.{ClusterNo}
use Rattle.sys_text.specs.declared.system.System.{System}
use Rattle.sys_text.specs.Valid.{is_system}
use Rattle.proc_state.specs.declared.process.Process.{Process}
use Rattle.proc_state.specs.State.{ProcState, state_of}
use Rattle.bus_msg.specs.declared.entry.What.{What}
use Rattle.bus_msg.specs.declared.entry.What.TheVariants.{Page, Rebackup}
use Rattle.bus_msg.specs.declared.entry.Post.{Post}
use Rattle.bus_msg.specs.declared.entry.Entry.{Entry}
use Rattle.bus_msg.specs.NewBackup.{next_backup_at}
use Rattle.bus_msg.specs.Places.{Places, same_pid}
use Rattle.bus_msg.specs.PlacedAfter.{what}
use Rattle.cert_sched.specs.Appended.{entry_of}
use Rattle.cert_sched.specs.Deeds.{arrived_count}
use Rattle.cert_sched.specs.Legal.{IsLegalBy, Stands}
use Rattle.cert_sched.specs.Losses.{is_from, least_calls}
use Rattle.cert_sched.specs.Rules.{has_its_pages, keeps_limits, tells_or_closes}
use Rattle.cert_sched.specs.Schedule.{placement}
use Rattle.cert_sched.specs.Simulation.{IsUnended}
use Rattle.cert_sched.specs.Steps.{silent_upto}
use Rattle.log_laws.proofs.pages.Keeping.{pages_kept as has_pages_still}
use Rattle.log_laws.proofs.pages.OneEntry.{moves_none}
use Rattle.checkpoint_laws.specs.posts.Batched.{AllNew, AllStand, log_with}
use Rattle.checkpoint_laws.specs.posts.Marked.{IsMarked}
use Rattle.checkpoint_laws.specs.marks.Sent.{SentUpto}
use Rattle.checkpoint_laws.specs.limits.Within.{AllKeepLimits}
use Rattle.checkpoint_laws.specs.batches.Underway.{PagesMay, page_left}
use Rattle.checkpoint_laws.proofs.batches.QueuedBatch.{pages_before, pages_kept, pages_others, pages_own, pages_sent_before}
use Rattle.backup_mode.specs.Posts.{fresh_post}
use Rattle.backup_laws.specs.Posts.{CountsFrom}
use Rattle.backup_laws.proofs.RenewalMarks.{pages_marked}
use Rattle.backup_laws.proofs.RenewalStands.{pages_are_new, pages_keep_limits, pages_stand, renewal_is_new, renewal_keeps_limits, renewal_stands}
use Rattle.cluster_core.specs.Sent.{SentMayStand}
use Rattle.cluster_core.specs.Queue.{IsQueueLegal, left_queued, move_of, state_by, state_now, with_queue}
use Rattle.cluster_core.specs.View.{ClusterView, head_of}
use Rattle.cluster_core.specs.Holds.{CarriesMarks, MarkedIfThere, is_fetch_queued}
use Rattle.cluster_core.specs.Renewing.{Renews, fresh_left, renewing_left}
use Rattle.cluster_core.proofs.syncs.BatchPosts.{calls_still}

-- a page, or a new backup
abbrev pub is_of_renewal : What → Bool
is_of_renewal (Page pid at index bytes) = true
is_of_renewal (Rebackup to fresh recs) = true
is_of_renewal _ = false

-- such an entry tells of no steps, and closes no log
pub renewal_tells_not : (w : What) → is_of_renewal w ≡ true → tells_or_closes w ≡ false
renewal_tells_not (Page pid at index bytes) of = refl
renewal_tells_not (Rebackup to fresh recs) of = refl
renewal_tells_not _ of = absurd (true≢false (sym of))

module _ (k : ClusterNo) (to : Option ClusterNo) (p : Pid) (s : ProcState) where
  abbrev posts : List ℕ → List Post
  posts = renewing_left k to p s

  -- Each post is sent by the cluster.
  pub renewal_own : (indices : List ℕ) → list_all (λ (post : Post). is_from k post.by) (posts indices) ≡ true
  renewal_own [] = by_fresh to
    where
      by_fresh : (o : Option ClusterNo) → list_all (λ (post : Post). is_from k post.by) (fresh_left k o p s) ≡ true
      by_fresh None = refl
      by_fresh (Some j) = ap (λ b. b && true) (eq-eqb k.0 k.0 refl)
  renewal_own (i ∷ js) = ap (λ b. b && list_all (λ (post : Post). is_from k post.by) (posts js)) (eq-eqb k.0 k.0 refl) ∙ renewal_own js

  -- The posts tell of no steps of another process.
  pub renewal_moves_other : (q : Pid) (indices : List ℕ) → same_pid p q ≡ false → move_of q (posts indices) ≡ None
  renewal_moves_other q [] apart = by_fresh to
    where
      by_fresh : (o : Option ClusterNo) → move_of q (fresh_left k o p s) ≡ None
      by_fresh None = refl
      by_fresh (Some j) = ap (λ b. option_map (λ (post : Post). post.what) (cond b (Some (fresh_post k j p s)) None)) apart
  renewal_moves_other q (i ∷ js) apart = renewal_moves_other q js apart

  -- None asks for a page.
  pub renewal_fetches_none : (q : Pid) (i : ℕ) (indices : List ℕ) → is_fetch_queued q (posts indices) i ≡ false
  renewal_fetches_none q i [] = by_fresh to
    where
      by_fresh : (o : Option ClusterNo) → is_fetch_queued q (fresh_left k o p s) i ≡ false
      by_fresh None = refl
      by_fresh (Some j) = refl
  renewal_fetches_none q i (j ∷ js) = renewal_fetches_none q i js

  -- At any entry the new backup falls, and no page does.
  pub renewal_falls : (before : Places) (w : What) (indices : List ℕ) → left_queued before w (posts indices) ≡ renewing_left k None p s indices
  renewal_falls before w [] = by_fresh to
    where
      by_fresh : (o : Option ClusterNo) → left_queued before w (fresh_left k o p s) ≡ []
      by_fresh None = refl
      by_fresh (Some j) = refl
  renewal_falls before w (i ∷ []) = by_fresh to
    where
      by_fresh : (o : Option ClusterNo) → left_queued before w (page_left k p s i ∷ fresh_left k o p s) ≡ page_left k p s i ∷ []
      by_fresh None = refl
      by_fresh (Some j) = refl
  renewal_falls before w (i ∷ j ∷ js) = ap (λ ps. page_left k p s i ∷ ps) (renewal_falls before w (j ∷ js))

  module _ (system : System) where
    -- With them the process stands as they say.
    pub renewal_state : (log : List Entry) (indices : List ℕ) → silent_upto system log p (s.small).steps ≡ Some s → state_now system log (posts indices) p (s.small).steps ≡ Some s
    renewal_state log [] reached = by_fresh to
      where
        by_fresh : (o : Option ClusterNo) → state_now system log (fresh_left k o p s) p (s.small).steps ≡ Some s
        by_fresh None = reached
        by_fresh (Some j) =
            ap (λ b. state_by system log p (s.small).steps (option_map (λ (post : Post). post.what) (cond b (Some (fresh_post k j p s)) None))) (eq-eqb p.0 p.0 refl)
            ∙ ap (option_map (λ (t : ProcState). t)) reached
    renewal_state log (i ∷ js) reached = renewal_state log js reached

    -- The pages stand in the log with the queue.
    pub renewal_log : (log : List Entry) (indices : List ℕ) → with_queue system log (posts indices) ≡ log_with system log (map (page_left k p s) indices)
    renewal_log log [] = by_fresh to
      where
        by_fresh : (o : Option ClusterNo) → with_queue system log (fresh_left k o p s) ≡ log
        by_fresh None = refl
        by_fresh (Some j) = refl
    renewal_log log (i ∷ js) = renewal_log (log ++ entry_of system log (page_left k p s i) ∷ []) js

    -- No post is a call of a disk.
    pub renewal_calls : (heard log : List Entry) (j : ClusterNo) (indices : List ℕ) → least_calls system heard (with_queue system log (posts indices)) j ≡ least_calls system heard log j
    renewal_calls heard log j [] = ap (λ l. least_calls system heard l j) (renewal_log log [])
    renewal_calls heard log j (i ∷ js) =
        renewal_calls heard (log ++ entry_of system log (page_left k p s i) ∷ []) j js ∙ calls_still k p s [] None system heard log (entry_of system log (page_left k p s i)) j refl

    -- the posts of a process that has its pages may follow where they stand, are new and keep the limits
    legal_so : (log : List Entry) (indices : List ℕ) → has_its_pages system log p ≡ true → AllStand system log (posts indices) → AllNew system log (posts indices) → AllKeepLimits system log (posts indices) → IsQueueLegal SentMayStand system log (posts indices)
    legal_so log [] has stand new keep = by_fresh to stand new keep
      where
        by_fresh : (o : Option ClusterNo) → AllStand system log (fresh_left k o p s) → AllNew system log (fresh_left k o p s) → AllKeepLimits system log (fresh_left k o p s) → IsQueueLegal SentMayStand system log (fresh_left k o p s)
        by_fresh None stand new keep = tt
        by_fresh (Some j) stand new keep = (record { stands = stand.0; of_kind = refl; limits = keep.0; new_page = new.0; pages = has }, tt)
    legal_so log (i ∷ js) has stand new keep =
        let e : Entry = entry_of system log (page_left k p s i) in (
          record { stands = stand.0; of_kind = refl; limits = keep.0; new_page = new.0; pages = has },
          legal_so (log ++ e ∷ []) js (has_pages_still system log e p stand.0 refl (moves_none system log e refl p) has) stand.1 new.1 keep.1,
        )

    -- The posts of a process that has its pages and is within its limits may follow, one after the other, where its new backup is the one that it is to get.
    pub renewal_legal : (log : List Entry) (indices : List ℕ) → is_system system ≡ true → IsLegalBy Stands system log → has_its_pages system log p ≡ true → keeps_limits system log p s ≡ true → PagesMay system log k p s indices
        → IfSome to (λ j. next_backup_at (placement system log) p ≡ Some j) → IsQueueLegal SentMayStand system log (posts indices)
    renewal_legal log indices valid legal has within may owed = legal_so log indices has (stand to owed) (new to) (keep to)
      where
        bare : map (page_left k p s) indices ++ [] ≡ map (page_left k p s) indices
        bare = append-nil (map (page_left k p s) indices)

        stand : (o : Option ClusterNo) → IfSome o (λ j. next_backup_at (placement system log) p ≡ Some j) → AllStand system log (renewing_left k o p s indices)
        stand None none = subst (AllStand system log) (sym bare) (pages_stand system k p s log indices may)
        stand (Some j) owed = renewal_stands system k p s j log indices valid legal may owed

        new : (o : Option ClusterNo) → AllNew system log (renewing_left k o p s indices)
        new None = subst (AllNew system log) (sym bare) (pages_are_new system k p s log indices may)
        new (Some j) = renewal_is_new system k p s j log indices may

        keep : (o : Option ClusterNo) → AllKeepLimits system log (renewing_left k o p s indices)
        keep None = subst (AllKeepLimits system log) (sym bare) (pages_keep_limits system k p s log indices)
        keep (Some j) = renewal_keeps_limits system k p s j log indices may within

    module _ (log : List Entry) (indices : List ℕ) (valid : is_system system ≡ true) (legal : IsLegalBy Stands system log) (may : PagesMay system log k p s indices) where
      abbrev paged : List Entry
      paged = log_with system log (map (page_left k p s) indices)

      bare : map (page_left k p s) indices ++ [] ≡ map (page_left k p s) indices
      bare = append-nil (map (page_left k p s) indices)

      stand : AllStand system log (map (page_left k p s) indices ++ [])
      stand = subst (AllStand system log) (sym bare) (pages_stand system k p s log indices may)

      -- Another process to which no more letters came than the log has for it carries with the posts the marks that it carried without,
      pub renewal_marks_others : (q : Pid) (o : Option Process) → same_pid p q ≡ false → IsUnended system log q → ((process : Process) → o ≡ Some process → (process.mail).next ≤ arrived_count log q)
          → MarkedIfThere CarriesMarks system log q o → MarkedIfThere CarriesMarks system (with_queue system log (posts indices)) q o
      renewal_marks_others q None apart unended low m = tt
      renewal_marks_others q (Some process) apart unended low m =
          subst (λ l. CarriesMarks system l q process) (ap (log_with system log) bare ∙ sym (renewal_log log indices))
          (record {
            marked = pages_kept system k p q s process valid apart [] (λ log legal unended low m. m) log indices legal stand unended (low process refl) m.marked;
            pages = m.pages;
            sent = pages_others system k p s (process.small).steps [] q (λ log upto. upto) log indices apart m.sent;
          })

      -- and the other way round.
      pub renewal_marks_before : (q : Pid) (o : Option Process) → same_pid p q ≡ false → IsUnended system log q → ((process : Process) → o ≡ Some process → (process.mail).next ≤ arrived_count log q)
          → MarkedIfThere CarriesMarks system (with_queue system log (posts indices)) q o → MarkedIfThere CarriesMarks system log q o
      renewal_marks_before q None apart unended low m = tt
      renewal_marks_before q (Some process) apart unended low m =
          let after : CarriesMarks system (log_with system log (map (page_left k p s) indices ++ [])) q process = subst (λ l. CarriesMarks system l q process) (renewal_log log indices ∙ ap (log_with system log) (sym bare)) m in
          record {
            marked = pages_before system k p q s process valid apart [] (λ log legal unended low m. m) log indices legal stand unended (low process refl) after.marked;
            pages = after.pages;
            sent = pages_sent_before system k p s (process.small).steps [] q (λ log upto. upto) log indices after.sent;
          }

      -- The process itself, without a mark and with what it counts from, carries its marks.
      pub renewal_marks_own : (process : Process) → state_of process ≡ s → CountsFrom system log p process → (process.ram).dirty ≡ replicate (process.small).pages false → SentUpto system log p (process.small).steps
          → CarriesMarks system (with_queue system log (posts indices)) p process
      renewal_marks_own process is counts unmarked upto =
          let steps : (s.small).steps ≡ (process.small).steps = ap (λ (s : ProcState). (s.small).steps) (sym is) in
          let low : (s.small).steps ≤ (process.small).steps = omega (arith, steps) in
          subst (λ l. CarriesMarks system l p process) (sym (renewal_log log indices))
          (record {
            marked = subst (λ (t : ProcState). PagesMay system log k p t indices → IsMarked system (log_with system log (map (page_left k p t) indices)) p process) is
                (λ may. pages_marked system k p process (process.small).pages valid unmarked log indices legal may counts) may;
            pages = sym (ap length unmarked ∙ length-replicate (process.small).pages false);
            sent = subst (λ l. SentUpto system l p (process.small).steps) (ap (log_with system log) bare) (pages_own system k p s (process.small).steps [] (λ log upto. upto) log indices low upto);
          })

-- the head of them is a page or a new backup
pub renewal_head : (system : System) (log : List Entry) (e : Entry) (before : ClusterView) (y : Renews system log before) → option_map (entry_of system log) (head_of before.queue) ≡ Some e → is_of_renewal (what e) ≡ true
renewal_head system log e before y head = by_indices y.indices y.to (sym (ap (λ ps. option_map (entry_of system log) (head_of ps)) y.posts) ∙ head)
  where
    by_indices : (indices : List ℕ) (to : Option ClusterNo) → option_map (entry_of system log) (head_of (renewing_left before.number to y.pid (state_of y.process) indices)) ≡ Some e → is_of_renewal (what e) ≡ true
    by_indices [] None is = cc
    by_indices [] (Some j) is = let whole : entry_of system log (fresh_post before.number j y.pid (state_of y.process)) ≡ e = cc in ap (λ (x : Entry). is_of_renewal (what x)) (sym whole)
    by_indices (i ∷ indices) to is = let whole : entry_of system log (page_left before.number y.pid (state_of y.process) i) ≡ e = cc in ap (λ (x : Entry). is_of_renewal (what x)) (sym whole)
