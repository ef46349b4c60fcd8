-- A process here comes to its fork: with the birth of its child queued a cluster goes on to follow each log that it followed.
use Rattle.std.proofs.Common.{◌≡◌, ℕ, zero, suc, ◌+◌, ◌-◌, ◌≤◌, refl, ◌∙◌, ap, subst, arith, List, [], ◌∷◌, true, cond, add-zero, Option, Some, None, is_some}
use Rattle.std.specs.Prelude.{option_and_then, option_map}
use Rattle.t32_base.specs.declared.process.Pid.{Pid}
use Rattle.sys_text.specs.declared.system.System.{System}
use Rattle.sys_text.specs.Valid.{is_system}
use Rattle.proc_state.specs.State.{ProcState, state_of, can_take}
use Rattle.sys_calls.specs.Next.{next_step, silent_of, silently}
use Rattle.sys_calls.proofs.Counting.{silently_counts}
use Rattle.bus_msg.specs.declared.entry.Entry.{Entry}
use Rattle.bus_msg.specs.Places.{unended_at}
use Rattle.cert_sched.specs.Parts.{rising}
use Rattle.cert_sched.specs.Kinds.{next_child_at}
use Rattle.cert_sched.specs.Schedule.{placement, done_after}
use Rattle.cert_sched.specs.Steps.{silent_upto}
use Rattle.cert_sched.specs.Legal.{MayStand}
use Rattle.cert_sched.specs.Losses.{capped, least_calls, least_steps}
use Rattle.log_laws.proofs.records.Standing.{all_stand}
use Rattle.residents.specs.declared.quantum.Forking.{Forking}
use Rattle.cluster_core.specs.View.{ClusterView, disk_calls, held_at, limits_of, next_count}
use Rattle.residents.specs.Held.{Held, Runs}
use Rattle.residents.specs.Changed.{with_changed}
use Rattle.cluster_core.specs.Queue.{Nothing, with_queue}
use Rattle.cluster_core.specs.Holds.{CarriesMarks, IsHeldAs, MarkedIfThere, process_in, unended_process}
use Rattle.cluster_core.specs.Bearing.{BearsChild, birth_post}
use Rattle.cluster_core.specs.Follows.{Follows, IsOpen}
use Rattle.residents.specs.Quantum.{ComesToFork}
use Rattle.residents.proofs.Changing.{changed_there, pids_changed}
use Rattle.cluster_core.proofs.syncs.Batching.{unqueued}
use Rattle.cluster_core.proofs.forks.ForksAgain.{forks_changed, run_forks}
use Rattle.cluster_core.proofs.here.Beside.{FollowsBeside, all_of, any_of}
use Rattle.cluster_core.proofs.syncs.RunMarks.{marked_ran}
use Rattle.cluster_core.proofs.working.Working.{acts, backups_beside, ahead, held_beside, held_there, home_of_it, limits_beside, marked_now, marks_beside, more_counted, pages_beside}
use Rattle.std.proofs.lemmas.Bool.{or_parts}
use Rattle.sync_point.specs.Due.{is_due_by}

-- ---- silent steps

silently-plus : (n m : ℕ) (s q t : ProcState) → silently n s ≡ Some q → silently m q ≡ Some t → silently (n + m) s ≡ Some t
unfolding silently
silently-plus n zero s q t first then = ap (λ k. silently k s) (add-zero n) ∙ first ∙ then
silently-plus n (suc m) s q t first then = by_case (silently m q) refl then (λ u. silently-plus n m s q u first)
  where
    by_case : (o : Option ProcState) → silently m q ≡ o → option_and_then (λ q. silent_of (next_step q)) o ≡ Some t → ((u : ProcState) → silently m q ≡ Some u → silently (n + m) s ≡ Some u) → silently (n + suc m) s ≡ Some t
    by_case None is last before = cc
    by_case (Some u) is last before =
        let count : n + suc m ≡ suc (n + m) = omega arith in
        ap (λ k. silently k s) count ∙ ap (option_and_then (λ q. silent_of (next_step q))) (before u is) ∙ last

-- more silent steps of a process ahead of a log
ahead_moved : (system : System) (log : List Entry) (p : Pid) (s t : ProcState) (n : ℕ) → silent_upto system log p (s.small).steps ≡ Some s → silently n s ≡ Some t → silent_upto system log p (t.small).steps ≡ Some t
unfolding silent_upto
ahead_moved system log p s t n is silent =
    let a = ahead system log p s is in
    let grown : (t.small).steps ≡ (s.small).steps + n = (silently_counts n s t silent).steps in
    let counts : (t.small).steps - done_after system log p ≡ ((s.small).steps - ((a.base).small).steps) + n = omega (arith, grown, a.done, a.counts) in
    ap (option_and_then (silently ((t.small).steps - done_after system log p))) a.there ∙ ap (λ m. silently m a.base) counts
    ∙ silently-plus ((s.small).steps - ((a.base).small).steps) n a.base s t a.silent silent

-- ---- a process of a cluster that follows a log, where nothing is queued, and which comes to its fork

module _ (c : ClusterView) (p : Pid) (made : ℕ) (was : Held) (forking : Forking) (new : Held) (k : ComesToFork (limits_of c.system) 64 made was forking new) (child : Pid) (valid : is_system c.system ≡ true) (empty : c.queue ≡ []) (there : held_at c p ≡ Some was)
    (log : List Entry) (go : IsOpen MayStand c.system log) (f : Follows c.system log c) where
  -- the cluster with the birth queued
  abbrev pub bearing : ClusterView
  bearing = record c { here = with_changed p (Runs k.now) c.here; queue = birth_post c.number p (state_of k.now) child ∷ []; steps = next_count c.steps }

  runs_there : held_at c p ≡ Some (Runs k.between)
  runs_there = there ∙ ap Some k.old_is

  -- the process stands in the log before its fork
  reached : silent_upto c.system log p ((k.now).small).steps ≡ Some (state_of k.now)
  reached = ahead_moved c.system log p (state_of k.between) (state_of k.now) k.silent (held_there c p (Runs k.between) empty runs_there valid log go f) (k.runs).silent

  marked : MarkedIfThere CarriesMarks c.system log p (unended_process (Runs k.now))
  marked =
      marked_ran c.system log p valid (all_stand c.system log go.0) (ap is_some (home_of_it c p was empty there valid log go f).found) k.silent k.between k.now
      (held_there c p (Runs k.between) empty runs_there valid log go f) k.runs (marked_now c p (Runs k.between) empty runs_there valid log go f)

  -- Beside the birth the cluster follows the log.
  pub birth_beside : FollowsBeside all_of c.system log (unqueued bearing)
  birth_beside = record {
    log = record { cursor = (f.log).cursor; places = (f.log).places };
    processes = record {
      held = λ q h at. any_of all_of c.system log [] q h (held_beside c log p (Runs k.now) [] f reached (λ q h other as_before. subst (λ ps. IsHeldAs c.system log ps q h) empty as_before) q h at);
      each_once = ap rising (pids_changed p (Runs k.now) c.here) ∙ (f.processes).each_once;
    };
    queue = record { own = refl; legal = tt };
    queued = record { queued = Nothing; posts = refl; together = tt };
    steps = record { counted = λ kept. more_counted (least_steps log log c.number + cond c.tried 1 0) c.steps ((f.steps).counted kept) };
    limits = limits_beside c p (Runs k.now) f.limits (k.within (f.limits p (Runs k.between) runs_there));
    pages = pages_beside c log p (Runs k.now) f.pages (λ some. f.pages p was there (ap (λ (h : Held). is_some (process_in h)) k.old_is));
    marks = λ q h at all. marks_beside c log p (Runs k.now) [] f marked (λ q h other at m. subst (λ ps. MarkedIfThere CarriesMarks c.system (with_queue c.system log ps) q (unended_process h)) empty m) q h at;
    records = f.records;
    family = f.family;
    owed = f.owed;
    backups = backups_beside c log p (Runs k.now) f.backups (λ begun. f.backups p was there (acts was (ap (λ (h : Held). is_some (process_in h)) k.old_is)));
    forks = forks_changed c.family p (Runs k.between) (Runs k.now) c.here runs_there (run_forks k.between k.now) f.forks;
    accounts = record {
      keeps = (f.accounts).keeps;
      there = (f.accounts).there;
      calls = λ kept serves. subst (λ ps. capped (least_calls c.system log (with_queue c.system log ps) c.number) ≤ disk_calls c) empty ((f.accounts).calls kept serves);
    };
    disk = f.disk;
  }

  -- What it has queued is the birth of its next child.
  pub birth_begins : option_map (next_child_at (placement c.system log)) (unended_at (placement c.system log) p) ≡ Some child → BearsChild c.system log bearing
  birth_begins next = record {
    pid = p;
    process = k.now;
    child = child;
    posts = refl;
    there = changed_there p (Runs k.now) c.here was there;
    stands = k.forks;
    undue = (or_parts (is_due_by k.now (c.system).syncreads (c.system).syncsteps) (can_take (state_of k.now)) k.undue).0;
    next = next;
  }
