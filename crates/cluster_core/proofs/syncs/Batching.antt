-- A cluster that follows a log, where the rest of a batch is queued: beside the batch, and with it.
use Rattle.std.proofs.Common.{◌≡◌, ℕ, ◌≤◌, refl, sym, ◌∙◌, ap, subst, arith, List, [], ◌∷◌, Bool, true, false, cond, not, eqb-true, Option, Some, None, true≢false, inl, inr}
use Rattle.std.specs.Prelude.{is_some, option_map}
use Rattle.std.specs.List.{list_all}
use Rattle.t32_base.specs.declared.process.Pid.{Pid}
use Rattle.t32_base.specs.declared.process.ClusterNo.{ClusterNo}
use Rattle.sys_text.specs.declared.system.System.{System}
use Rattle.sys_text.specs.Valid.{is_system}
use Rattle.proc_state.specs.declared.process.Process.{Process}
use Rattle.proc_state.specs.State.{ProcState, state_of}
use Rattle.bus_msg.specs.declared.entry.Post.{Post}
use Rattle.bus_msg.specs.declared.entry.Entry.{Entry}
use Rattle.bus_msg.specs.Places.{same_pid}
use Rattle.bus_msg.specs.PlacedAfter.{what}
use Rattle.cert_sched.specs.Appended.{entry_of}
use Rattle.cluster_core.specs.Sent.{SentMayStand}
use Rattle.cert_sched.specs.Deeds.{arrived_count}
use Rattle.cert_sched.specs.Legal.{IsLegalBy, Stands, MayStand}
use Rattle.cert_sched.specs.Losses.{capped, is_from, least_calls}
use Rattle.cert_sched.specs.Parts.{rising}
use Rattle.cert_sched.specs.Rests.{home_pids}
use Rattle.cert_sched.specs.Schedule.{placement}
use Rattle.cert_sched.specs.Kinds.{after_take}
use Rattle.cert_sched.specs.Simulation.{IsUnended}
use Rattle.cert_sched.specs.Steps.{silent_upto}
use Rattle.checkpoint_laws.specs.marks.Sent.{SentUpto}
use Rattle.checkpoint_laws.proofs.posts.TakeLeaves.{takes_leave}
use Rattle.checkpoint_laws.specs.batches.Underway.{BatchMay, page_left, posts_left, sync_left}
use Rattle.checkpoint_laws.proofs.batches.QueuedBatch.{queued_sent_before}
use Rattle.log_laws.proofs.records.Standing.{all_stand}
use Rattle.cluster_core.specs.View.{ClusterView, disk_calls, head_of, held_at}
use Rattle.residents.specs.Held.{Held, Runs, Rolls, Waits}
use Rattle.residents.specs.Residents.{pids_in}
use Rattle.cluster_core.specs.Queue.{Nothing, IsQueueLegal, move_of, state_by, with_queue}
use Rattle.cluster_core.specs.Holds.{CarriesMarks, IsHeldAs, MarkedIfThere, is_fetch_queued, unended_process}
use Rattle.cluster_core.specs.Syncing.{Synchronises}
use Rattle.cluster_core.specs.Follows.{Follows, IsOpen}
use Rattle.cluster_core.proofs.syncs.BatchPosts.{batch_calls, batch_fetches_none, batch_legal, batch_log, batch_marks_others, batch_marks_others_before, batch_marks_own, batch_moves, batch_moves_other, batch_own}
use Rattle.cluster_core.proofs.here.Beside.{FollowsBeside, HeldOf, any_of, one_of_them}
use Rattle.cluster_core.proofs.absorbing.ByKind.{is_of_sync}
use Rattle.cluster_core.proofs.here.Here.{is_among}
use Rattle.residents.proofs.Changing.{pid_same}
use Rattle.cluster_core.proofs.losses.Homes.{pids_apart, home_here}
use Rattle.cluster_core.proofs.syncs.Marking.{came_to}
use Rattle.replay_laws.proofs.forks.EitherWait.{so_alike}

-- every process but one
abbrev pub all_but : Pid → Pid → Bool
all_but p q = not (same_pid p q)

-- the same cluster, where nothing is queued
abbrev pub unqueued : ClusterView → ClusterView
unqueued c = record c { queue = [] }

-- what is held of a process stays so with a queue that tells of no steps of it and asks for none of its pages
pub held_alike : (system : System) (log : List Entry) (before after : List Post) (q : Pid) (h : Held) → move_of q before ≡ None → move_of q after ≡ None → ((i : ℕ) → is_fetch_queued q before i ≡ is_fetch_queued q after i)
    → IsHeldAs system log before q h → IsHeldAs system log after q h
held_alike system log before after q (Runs process) none still fetches held = ap (state_by system log q (process.small).steps) still ∙ sym (ap (state_by system log q (process.small).steps) none) ∙ held
held_alike system log before after q (Rolls process counts births) none still fetches held = (still, held.1)
held_alike system log before after q (Waits waiting) none still fetches held = (still, so_alike system log q (is_fetch_queued q before) (is_fetch_queued q after) waiting fetches held.1)

-- as many letters have come to a process that is held where nothing is queued as the log has for it
pub arrived_low : (system : System) (log : List Entry) (q : Pid) (h : Held) → is_system system ≡ true → IsLegalBy Stands system log → IsUnended system log q → IsHeldAs system log [] q h
    → (process : Process) → unended_process h ≡ Some process → (process.mail).next ≤ arrived_count log q
arrived_low system log q h valid legal unended held process is = let came = came_to system log q valid legal unended Nothing h process tt tt held is in omega (arith, came)

-- the process is as it is after the synchronisation that ends its batch
pub batch_state : (system : System) (log : List Entry) (k : ClusterNo) (p : Pid) (s : ProcState) (read : List ℕ) (took : Option ℕ) (indices : List ℕ) → BatchMay system log k p s read took indices
    → option_map (after_take took) (silent_upto system log p (s.small).steps) ≡ Some s
batch_state system log k p s read took indices b =
    ap (option_map (after_take took)) (ap (silent_upto system log p) (takes_leave took b.before s b.takes).steps ∙ (b.may).reached) ∙ ap Some (b.takes).after

-- the head of a batch is a page or a synchronisation
pub batch_head : (system : System) (log : List Entry) (e : Entry) (before : ClusterView) → Synchronises system log before → option_map (entry_of system log) (head_of before.queue) ≡ Some e → is_of_sync (what e) ≡ true
batch_head system log e before y head = by_indices y.indices (sym (ap (λ ps. option_map (entry_of system log) (head_of ps)) y.posts) ∙ head)
  where
    by_indices : (indices : List ℕ) → option_map (entry_of system log) (head_of (posts_left before.number y.pid (state_of y.process) y.read y.took indices)) ≡ Some e → is_of_sync (what e) ≡ true
    by_indices [] is = let whole : entry_of system log (sync_left before.number y.pid (state_of y.process) y.read y.took) ≡ e = cc in ap (λ (x : Entry). is_of_sync (what x)) (sym whole)
    by_indices (i ∷ indices) is = let whole : entry_of system log (page_left before.number y.pid (state_of y.process) i) ≡ e = cc in ap (λ (x : Entry). is_of_sync (what x)) (sym whole)

module _ (system : System) (log : List Entry) (c : ClusterView) (y : Synchronises system log c) (valid : is_system system ≡ true) (open_log : IsOpen MayStand system log) where
  abbrev p : Pid
  p = y.pid

  abbrev s : ProcState
  s = state_of y.process

  abbrev posts : List Post
  posts = posts_left c.number p s y.read y.took y.indices

  legal : IsLegalBy Stands system log
  legal = all_stand system log open_log.0

  -- one that is held at its pid is the process
  mine : (q : Pid) (h : Held) → same_pid p q ≡ true → held_at c q ≡ Some h → h ≡ Runs y.process
  mine q h own there =
      let same : Some h ≡ Some (Runs y.process) = sym there ∙ ap (held_at c) (sym (pid_same p q (eqb-true p.0 q.0 own))) ∙ y.there in
      cc

  unended_of : (q : Pid) (h : Held) → rising (pids_in c.here) ≡ rising (home_pids system log c.number) → held_at c q ≡ Some h → IsUnended system log q
  unended_of q h once there = ap is_some (home_here (placement system log) c.number (pids_in c.here) q (pids_apart system log valid open_log.0) once (is_among c.here q h there)).found

  -- ---- beside the batch

  pub without_batch : Follows system log c → FollowsBeside (all_but p) system log (unqueued c)
  without_batch f = record {
    log = record { cursor = (f.log).cursor; places = (f.log).places };
    processes = record { held = held; each_once = (f.processes).each_once };
    queue = record { own = refl; legal = tt };
    queued = record { queued = Nothing; posts = refl; together = tt };
    steps = record { counted = (f.steps).counted };
    limits = f.limits;
    pages = f.pages;
    marks = marks;
    records = f.records;
    family = f.family;
    owed = f.owed;
    backups = f.backups;
    forks = f.forks;
    accounts = record { keeps = (f.accounts).keeps; there = (f.accounts).there; calls = λ kept server. subst (λ n. capped n ≤ disk_calls c) calls ((f.accounts).calls kept server) };
    disk = f.disk;
  }
    where
      calls : least_calls system log (with_queue system log c.queue) c.number ≡ least_calls system log log c.number
      calls = ap (λ ps. least_calls system log (with_queue system log ps) c.number) y.posts ∙ batch_calls c.number p s y.read y.took system log log c.number y.indices

      other_held : (q : Pid) (h : Held) → held_at c q ≡ Some h → same_pid p q ≡ false → IsHeldAs system log [] q h
      other_held q h there other =
          held_alike system log posts [] q h (batch_moves_other c.number p s y.read y.took q y.indices other) refl (λ i. batch_fetches_none c.number p s y.read y.took q i y.indices)
          (subst (λ ps. IsHeldAs system log ps q h) y.posts ((f.processes).held q h there))

      held : (q : Pid) (h : Held) → held_at c q ≡ Some h → HeldOf (all_but p) system log [] q h
      held q h there = by_pid (same_pid p q) refl
        where
          by_pid : (b : Bool) → same_pid p q ≡ b → HeldOf (all_but p) system log [] q h
          by_pid true own = subst (λ x. HeldOf (all_but p) system log [] q x) (sym (mine q h own there)) (λ passes. absurd (true≢false (sym passes ∙ ap not own)))
          by_pid false other = any_of (all_but p) system log [] q h (other_held q h there other)

      marks : (q : Pid) (h : Held) → held_at c q ≡ Some h → all_but p q ≡ true → MarkedIfThere CarriesMarks system log q (unended_process h)
      marks q h there other =
          let apart : same_pid p q ≡ false = not_it (same_pid p q) other in
          let unended = unended_of q h (f.processes).each_once there in
          batch_marks_others_before c.number p s y.read y.took system log y.indices valid legal y.may q (unended_process h) apart unended (arrived_low system log q h valid legal unended (other_held q h there apart))
          (subst (λ ps. MarkedIfThere CarriesMarks system (with_queue system log ps) q (unended_process h)) y.posts (f.marks q h there))
        where
          not_it : (b : Bool) → not b ≡ true → b ≡ false
          not_it true is = absurd (true≢false (sym is))
          not_it false is = refl

  -- of no later step than its own was a page of the process sent
  pub sent_there : Follows system log c → SentUpto system log p ((y.process).small).steps
  sent_there f =
      let m : MarkedIfThere CarriesMarks system (with_queue system log posts) p (unended_process (Runs y.process)) = subst (λ ps. MarkedIfThere CarriesMarks system (with_queue system log ps) p (unended_process (Runs y.process))) y.posts (f.marks p (Runs y.process) y.there) in
      let there : CarriesMarks system (with_queue system log posts) p y.process = subst (λ b. MarkedIfThere CarriesMarks system (with_queue system log posts) p (cond b None (Some y.process))) (y.may).runs m in
      queued_sent_before system c.number p s y.read y.took ((y.process).small).steps p log y.indices (subst (λ l. SentUpto system l p ((y.process).small).steps) (batch_log c.number p s y.read y.took system log y.indices) there.sent)

  -- ---- with the batch

  pub with_batch : FollowsBeside (all_but p) system log (unqueued c) → SentUpto system log p ((y.process).small).steps → Follows system log c
  with_batch f sent = record {
    log = record { cursor = (f.log).cursor; places = (f.log).places };
    processes = record { held = held; each_once = (f.processes).each_once };
    queue = record {
      own = ap (λ ps. list_all_own ps) y.posts ∙ batch_own c.number p s y.read y.took y.indices;
      legal = subst (IsQueueLegal SentMayStand system log) (sym y.posts) (batch_legal c.number p s y.read y.took system log y.indices valid legal (f.pages p (Runs y.process) y.there refl) y.within y.may);
    };
    queued = inr (inl y);
    steps = record { counted = (f.steps).counted };
    limits = f.limits;
    pages = f.pages;
    marks = marks;
    records = f.records;
    family = f.family;
    owed = f.owed;
    backups = f.backups;
    forks = f.forks;
    accounts = record { keeps = (f.accounts).keeps; there = (f.accounts).there; calls = λ kept server. subst (λ n. capped n ≤ disk_calls c) (sym calls) ((f.accounts).calls kept server) };
    disk = f.disk;
  }
    where
      list_all_own : List Post → Bool
      list_all_own ps = list_all (λ (post : Post). is_from c.number post.by) ps

      calls : least_calls system log (with_queue system log c.queue) c.number ≡ least_calls system log log c.number
      calls = ap (λ ps. least_calls system log (with_queue system log ps) c.number) y.posts ∙ batch_calls c.number p s y.read y.took system log log c.number y.indices

      held : (q : Pid) (h : Held) → held_at c q ≡ Some h → IsHeldAs system log c.queue q h
      held q h there = subst (λ ps. IsHeldAs system log ps q h) (sym y.posts) (by_pid (same_pid p q) refl)
        where
          at_p : IsHeldAs system log posts p (Runs y.process)
          at_p = ap (state_by system log p ((y.process).small).steps) (batch_moves c.number p s y.read y.took y.indices) ∙ batch_state system log c.number p s y.read y.took y.indices y.may

          by_pid : (b : Bool) → same_pid p q ≡ b → IsHeldAs system log posts q h
          by_pid true own = subst (λ x. IsHeldAs system log posts q x) (sym (mine q h own there)) (subst (λ r. IsHeldAs system log posts r (Runs y.process)) (pid_same p q (eqb-true p.0 q.0 own)) at_p)
          by_pid false other =
              held_alike system log [] posts q h refl (batch_moves_other c.number p s y.read y.took q y.indices other) (λ i. sym (batch_fetches_none c.number p s y.read y.took q i y.indices))
              (one_of_them (all_but p) system log [] q h (ap not other) ((f.processes).held q h there))

      marks : (q : Pid) (h : Held) → held_at c q ≡ Some h → MarkedIfThere CarriesMarks system (with_queue system log c.queue) q (unended_process h)
      marks q h there = subst (λ ps. MarkedIfThere CarriesMarks system (with_queue system log ps) q (unended_process h)) (sym y.posts) (by_pid (same_pid p q) refl)
        where
          own_marks : CarriesMarks system (with_queue system log posts) p y.process
          own_marks = batch_marks_own c.number p s y.read y.took system log y.indices valid legal y.may y.process refl y.unread y.since y.unmarked sent

          at_p : MarkedIfThere CarriesMarks system (with_queue system log posts) p (unended_process (Runs y.process))
          at_p = subst (λ b. MarkedIfThere CarriesMarks system (with_queue system log posts) p (cond b None (Some y.process))) (sym (y.may).runs) own_marks

          by_pid : (b : Bool) → same_pid p q ≡ b → MarkedIfThere CarriesMarks system (with_queue system log posts) q (unended_process h)
          by_pid true own =
              subst (λ x. MarkedIfThere CarriesMarks system (with_queue system log posts) q (unended_process x)) (sym (mine q h own there))
              (subst (λ r. MarkedIfThere CarriesMarks system (with_queue system log posts) r (unended_process (Runs y.process))) (pid_same p q (eqb-true p.0 q.0 own)) at_p)
          by_pid false other =
              let unended = unended_of q h (f.processes).each_once there in
              batch_marks_others c.number p s y.read y.took system log y.indices valid legal y.may q (unended_process h) other unended (arrived_low system log q h valid legal unended (one_of_them (all_but p) system log [] q h (ap not other) ((f.processes).held q h there)))
              (f.marks q h there (ap not other))
