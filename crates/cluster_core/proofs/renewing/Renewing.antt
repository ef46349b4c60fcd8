-- A cluster that follows a log, where the rest of what brings a process its new backup is queued: beside that, and with it.
use Rattle.std.proofs.Common.{◌≡◌, ◌≤◌, refl, sym, ◌∙◌, ap, subst, List, [], Bool, true, false, cond, not, eqb-true, Some, None, true≢false, inr}
use Rattle.std.specs.Prelude.{is_some, map}
use Rattle.std.specs.List.{list_all}
use Rattle.t32_base.specs.declared.process.Pid.{Pid}
use Rattle.sys_text.specs.declared.system.System.{System}
use Rattle.sys_text.specs.Valid.{is_system}
use Rattle.proc_state.specs.State.{ProcState, state_of}
use Rattle.bus_msg.specs.declared.entry.Post.{Post}
use Rattle.bus_msg.specs.declared.entry.Entry.{Entry}
use Rattle.bus_msg.specs.Places.{same_pid}
use Rattle.cert_sched.specs.Legal.{MayStand}
use Rattle.cert_sched.specs.Legal.{IsLegalBy, Stands}
use Rattle.cert_sched.specs.Losses.{capped, is_from, least_calls}
use Rattle.cert_sched.specs.Parts.{rising}
use Rattle.cert_sched.specs.Rests.{home_pids}
use Rattle.cert_sched.specs.Schedule.{placement}
use Rattle.cert_sched.specs.Simulation.{IsUnended}
use Rattle.checkpoint_laws.specs.marks.Sent.{SentUpto}
use Rattle.checkpoint_laws.specs.posts.Batched.{log_with}
use Rattle.checkpoint_laws.specs.batches.Underway.{page_left}
use Rattle.checkpoint_laws.proofs.batches.QueuedBatch.{pages_sent_before}
use Rattle.log_laws.proofs.records.Standing.{all_stand}
use Rattle.std.proofs.lemmas.List.{append-nil}
use Rattle.cluster_core.specs.Sent.{SentMayStand}
use Rattle.cluster_core.specs.View.{ClusterView, disk_calls, held_at}
use Rattle.residents.specs.Held.{Held, Runs}
use Rattle.residents.specs.Residents.{pids_in}
use Rattle.residents.proofs.Changing.{pid_same}
use Rattle.cluster_core.specs.Queue.{Nothing, IsQueueLegal, with_queue}
use Rattle.cluster_core.specs.Holds.{CarriesMarks, IsHeldAs, MarkedIfThere, unended_process}
use Rattle.cluster_core.specs.Renewing.{Renews, renewing_left}
use Rattle.cluster_core.specs.Follows.{Follows, IsOpen}
use Rattle.cluster_core.proofs.renewing.RenewalPosts.{renewal_calls, renewal_fetches_none, renewal_legal, renewal_log, renewal_marks_before, renewal_marks_others, renewal_marks_own, renewal_moves_other, renewal_own, renewal_state}
use Rattle.cluster_core.proofs.here.Beside.{FollowsBeside, HeldOf, any_of, one_of_them}
use Rattle.cluster_core.proofs.here.Here.{is_among}
use Rattle.cluster_core.proofs.losses.Homes.{pids_apart, home_here}
use Rattle.cluster_core.proofs.syncs.Batching.{all_but, arrived_low, held_alike, unqueued}

module _ (system : System) (log : List Entry) (c : ClusterView) (y : Renews system log c) (valid : is_system system ≡ true) (open_log : IsOpen MayStand system log) where
  abbrev p : Pid
  p = y.pid

  abbrev s : ProcState
  s = state_of y.process

  abbrev posts : List Post
  posts = renewing_left c.number y.to p s y.indices

  legal : IsLegalBy Stands system log
  legal = all_stand system log open_log.0

  -- one that is held at its pid is the process
  mine : (q : Pid) (h : Held) → same_pid p q ≡ true → held_at c q ≡ Some h → h ≡ Runs y.process
  mine q h own there =
      let same : Some h ≡ Some (Runs y.process) = sym there ∙ ap (held_at c) (sym (pid_same p q (eqb-true p.0 q.0 own))) ∙ y.there in
      cc

  unended_of : (q : Pid) (h : Held) → rising (pids_in c.here) ≡ rising (home_pids system log c.number) → held_at c q ≡ Some h → IsUnended system log q
  unended_of q h once there = ap is_some (home_here (placement system log) c.number (pids_in c.here) q (pids_apart system log valid open_log.0) once (is_among c.here q h there)).found

  calls : least_calls system log (with_queue system log c.queue) c.number ≡ least_calls system log log c.number
  calls = ap (λ ps. least_calls system log (with_queue system log ps) c.number) y.posts ∙ renewal_calls c.number y.to p s system log log c.number y.indices

  -- ---- beside the posts

  pub without_renewal : Follows system log c → FollowsBeside (all_but p) system log (unqueued c)
  without_renewal f = record {
    log = record { cursor = (f.log).cursor; places = (f.log).places };
    processes = record { held = held; each_once = (f.processes).each_once };
    queue = record { own = refl; legal = tt };
    queued = record { queued = Nothing; posts = refl; together = tt };
    steps = record { counted = (f.steps).counted };
    limits = f.limits;
    pages = f.pages;
    marks = marks;
    records = f.records;
    family = f.family;
    owed = f.owed;
    backups = f.backups;
    forks = f.forks;
    accounts = record { keeps = (f.accounts).keeps; there = (f.accounts).there; calls = λ kept server. subst (λ n. capped n ≤ disk_calls c) calls ((f.accounts).calls kept server) };
    disk = f.disk;
  }
    where
      other_held : (q : Pid) (h : Held) → held_at c q ≡ Some h → same_pid p q ≡ false → IsHeldAs system log [] q h
      other_held q h there other =
          held_alike system log posts [] q h (renewal_moves_other c.number y.to p s q y.indices other) refl (λ i. renewal_fetches_none c.number y.to p s q i y.indices)
          (subst (λ ps. IsHeldAs system log ps q h) y.posts ((f.processes).held q h there))

      held : (q : Pid) (h : Held) → held_at c q ≡ Some h → HeldOf (all_but p) system log [] q h
      held q h there = by_pid (same_pid p q) refl
        where
          by_pid : (b : Bool) → same_pid p q ≡ b → HeldOf (all_but p) system log [] q h
          by_pid true own = subst (λ x. HeldOf (all_but p) system log [] q x) (sym (mine q h own there)) (λ passes. absurd (true≢false (sym passes ∙ ap not own)))
          by_pid false other = any_of (all_but p) system log [] q h (other_held q h there other)

      marks : (q : Pid) (h : Held) → held_at c q ≡ Some h → all_but p q ≡ true → MarkedIfThere CarriesMarks system log q (unended_process h)
      marks q h there other =
          let apart : same_pid p q ≡ false = not_it (same_pid p q) other in
          let unended = unended_of q h (f.processes).each_once there in
          renewal_marks_before c.number y.to p s system log y.indices valid legal y.may q (unended_process h) apart unended (arrived_low system log q h valid legal unended (other_held q h there apart))
          (subst (λ ps. MarkedIfThere CarriesMarks system (with_queue system log ps) q (unended_process h)) y.posts (f.marks q h there))
        where
          not_it : (b : Bool) → not b ≡ true → b ≡ false
          not_it true is = absurd (true≢false (sym is))
          not_it false is = refl

  -- of no later step than its own was a page of the process sent
  pub sent_there : Follows system log c → SentUpto system log p ((y.process).small).steps
  sent_there f =
      let m : MarkedIfThere CarriesMarks system (with_queue system log posts) p (unended_process (Runs y.process)) = subst (λ ps. MarkedIfThere CarriesMarks system (with_queue system log ps) p (unended_process (Runs y.process))) y.posts (f.marks p (Runs y.process) y.there) in
      let there : CarriesMarks system (with_queue system log posts) p y.process = subst (λ b. MarkedIfThere CarriesMarks system (with_queue system log posts) p (cond b None (Some y.process))) (y.may).runs m in
      pages_sent_before system c.number p s ((y.process).small).steps [] p (λ log upto. upto) log y.indices
      (subst (λ l. SentUpto system l p ((y.process).small).steps) (renewal_log c.number y.to p s system log y.indices ∙ ap (log_with system log) (sym (append-nil (map (page_left c.number p s) y.indices)))) there.sent)

  -- ---- with them

  pub with_renewal : FollowsBeside (all_but p) system log (unqueued c) → SentUpto system log p ((y.process).small).steps → Follows system log c
  with_renewal f sent = record {
    log = record { cursor = (f.log).cursor; places = (f.log).places };
    processes = record { held = held; each_once = (f.processes).each_once };
    queue = record {
      own = ap (λ ps. list_all_own ps) y.posts ∙ renewal_own c.number y.to p s y.indices;
      legal = subst (IsQueueLegal SentMayStand system log) (sym y.posts) (renewal_legal c.number y.to p s system log y.indices valid legal (f.pages p (Runs y.process) y.there refl) y.within y.may y.owed);
    };
    queued = inr (inr (inr (inr y)));
    steps = record { counted = (f.steps).counted };
    limits = f.limits;
    pages = f.pages;
    marks = marks;
    records = f.records;
    family = f.family;
    owed = f.owed;
    backups = f.backups;
    forks = f.forks;
    accounts = record { keeps = (f.accounts).keeps; there = (f.accounts).there; calls = λ kept server. subst (λ n. capped n ≤ disk_calls c) (sym calls) ((f.accounts).calls kept server) };
    disk = f.disk;
  }
    where
      list_all_own : List Post → Bool
      list_all_own ps = list_all (λ (post : Post). is_from c.number post.by) ps

      held : (q : Pid) (h : Held) → held_at c q ≡ Some h → IsHeldAs system log c.queue q h
      held q h there = subst (λ ps. IsHeldAs system log ps q h) (sym y.posts) (by_pid (same_pid p q) refl)
        where
          at_p : IsHeldAs system log posts p (Runs y.process)
          at_p = renewal_state c.number y.to p s system log y.indices ((y.may).may).reached

          by_pid : (b : Bool) → same_pid p q ≡ b → IsHeldAs system log posts q h
          by_pid true own = subst (λ x. IsHeldAs system log posts q x) (sym (mine q h own there)) (subst (λ r. IsHeldAs system log posts r (Runs y.process)) (pid_same p q (eqb-true p.0 q.0 own)) at_p)
          by_pid false other =
              held_alike system log [] posts q h refl (renewal_moves_other c.number y.to p s q y.indices other) (λ i. sym (renewal_fetches_none c.number y.to p s q i y.indices))
              (one_of_them (all_but p) system log [] q h (ap not other) ((f.processes).held q h there))

      marks : (q : Pid) (h : Held) → held_at c q ≡ Some h → MarkedIfThere CarriesMarks system (with_queue system log c.queue) q (unended_process h)
      marks q h there = subst (λ ps. MarkedIfThere CarriesMarks system (with_queue system log ps) q (unended_process h)) (sym y.posts) (by_pid (same_pid p q) refl)
        where
          own_marks : CarriesMarks system (with_queue system log posts) p y.process
          own_marks = renewal_marks_own c.number y.to p s system log y.indices valid legal y.may y.process refl y.counts y.unmarked sent

          at_p : MarkedIfThere CarriesMarks system (with_queue system log posts) p (unended_process (Runs y.process))
          at_p = subst (λ b. MarkedIfThere CarriesMarks system (with_queue system log posts) p (cond b None (Some y.process))) (sym (y.may).runs) own_marks

          by_pid : (b : Bool) → same_pid p q ≡ b → MarkedIfThere CarriesMarks system (with_queue system log posts) q (unended_process h)
          by_pid true own =
              subst (λ x. MarkedIfThere CarriesMarks system (with_queue system log posts) q (unended_process x)) (sym (mine q h own there))
              (subst (λ r. MarkedIfThere CarriesMarks system (with_queue system log posts) r (unended_process (Runs y.process))) (pid_same p q (eqb-true p.0 q.0 own)) at_p)
          by_pid false other =
              let unended = unended_of q h (f.processes).each_once there in
              renewal_marks_others c.number y.to p s system log y.indices valid legal y.may q (unended_process h) other unended (arrived_low system log q h valid legal unended (one_of_them (all_but p) system log [] q h (ap not other) ((f.processes).held q h there)))
              (f.marks q h there (ap not other))
