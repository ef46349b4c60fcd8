-- A process that is due synchronises: with its batch queued a cluster goes on to follow each log that it followed.
use Rattle.std.proofs.Common.{◌≡◌, ◌+◌, ◌≤◌, refl, sym, ◌∙◌, ap, subst, List, [], true, false, Bool, cond, not, ◌||◌, ◌&&◌, eq-eqb, eqb-true, Some, None, is_none, is_some, true≢false}
use Rattle.std.specs.Prelude.{replicate}
use Rattle.std.proofs.lemmas.Bool.{and_parts, not-true}
use Rattle.t32_base.specs.declared.process.Pid.{Pid}
use Rattle.sys_text.specs.declared.system.System.{System}
use Rattle.sys_text.specs.Valid.{is_system}
use Rattle.proc_state.specs.declared.process.Process.{Process}
use Rattle.proc_state.specs.Mail.{first_signal}
use Rattle.proc_state.specs.State.{can_take, is_live, state_of}
use Rattle.rv_mem.specs.declared.Ram.{Ram}
use Rattle.std.specs.Option.{option_map_or}
use Rattle.bus_msg.specs.declared.entry.By.TheVariants.{Cluster}
use Rattle.bus_msg.specs.declared.entry.Entry.{Entry}
use Rattle.bus_msg.specs.Places.{same_pid}
use Rattle.cert_sched.specs.Parts.{rising}
use Rattle.cert_sched.specs.Schedule.{placement}
use Rattle.cert_sched.specs.Kinds.{ChildrenSynced}
use Rattle.cert_sched.specs.Record.{has_state}
use Rattle.cert_sched.specs.Steps.{silent_upto}
use Rattle.cert_sched.specs.Legal.{IsLegalBy, Stands, MayStand}
use Rattle.cert_sched.specs.Losses.{capped, least_calls, least_steps}
use Rattle.cert_sched.specs.Rules.{has_its_pages, keeps_limits}
use Rattle.log_laws.proofs.records.Standing.{all_stand}
use Rattle.sync_point.specs.Batch.{batch, cut_of, marked_pages, synced, took_by}
use Rattle.sync_point.specs.Due.{is_due_by}
use Rattle.sync_point.proofs.Cuts.{Keeps, cut_keeps}
use Rattle.checkpoint_laws.specs.marks.Sent.{SentUpto}
use Rattle.quanta.specs.Limited.{is_due}
use Rattle.checkpoint_laws.specs.posts.Running.{RunsMarked}
use Rattle.checkpoint_laws.specs.posts.Sending.{MaySend}
use Rattle.checkpoint_laws.specs.batches.Underway.{BatchMay, posts_left}
use Rattle.checkpoint_laws.proofs.batches.BatchBegins.{batch_begins, batch_posts}
use Rattle.cluster_core.specs.View.{ClusterView, disk_calls, held_at, limits_of, next_count}
use Rattle.residents.specs.Held.{Held, Runs}
use Rattle.residents.specs.Residents.{pids_in}
use Rattle.residents.specs.Changed.{with_changed}
use Rattle.cluster_core.specs.Queue.{Nothing, with_queue}
use Rattle.cluster_core.specs.Holds.{CarriesMarks, IsHeldAs, MarkedIfThere, unended_process}
use Rattle.cluster_core.specs.Syncing.{Synchronises}
use Rattle.cluster_core.specs.Follows.{Follows, IsOpen}
use Rattle.cluster_core.specs.Calls.{GoesOn}
use Rattle.residents.proofs.Changing.{FoundChanged, changed_there, found_changed, pids_changed}
use Rattle.cluster_core.proofs.here.Here.{is_among}
use Rattle.cluster_core.proofs.losses.Homes.{HomeHere, pids_apart, home_here, home_lives}
use Rattle.cluster_core.proofs.syncs.Batching.{all_but, unqueued, with_batch}
use Rattle.cluster_core.proofs.forks.ForksAgain.{forks_changed}
use Rattle.cluster_core.proofs.here.Beside.{FollowsBeside, HeldOf, any_of}
use Rattle.cluster_core.proofs.here.Within.{carried, own_within, runs_marked, synced_within}
use Rattle.cluster_core.proofs.working.Working.{home_by, limits_beside, more_counted, pages_beside, turned, backups_beside}

-- ---- who may synchronise

-- its children synchronised, and it is due, takes a signal, or never synchronised
pub record MayCut (system : System) (log : List Entry) (p : Pid) (process : Process) : Type 0 where
  pub children : ChildrenSynced system log p
  pub due : (is_due_by process system.syncreads system.syncsteps || is_some (took_by process) || not (has_state system log p)) ≡ true

-- one that is due, or can take a signal, may synchronise
pub due_or_takes : (system : System) (process : Process) (new : Bool) → is_due (limits_of system) process ≡ true → (is_due_by process system.syncreads system.syncsteps || is_some (took_by process) || new) ≡ true
due_or_takes system process new due = either (is_due_by process system.syncreads system.syncsteps) (can_take (state_of process)) refl due
  where
    takes : can_take (state_of process) ≡ true → is_some (took_by process) ≡ true
    takes can =
        ap (λ b. is_some (cond b (first_signal (process.mail).letters) None)) can
        ∙ (and_parts (is_live (process.small).status && is_none (process.small).frame) (is_some (first_signal (process.mail).letters)) can).1

    either : (a t : Bool) → can_take (state_of process) ≡ t → (a || t) ≡ true → (a || is_some (took_by process) || new) ≡ true
    either true t is due = refl
    either false true is due = ap (λ b. b || new) (takes is)
    either false false is due = absurd (true≢false (sym due))

-- so it is in each log that the cluster follows
abbrev pub MayCutIn : ClusterView → Pid → Process → Type 0
MayCutIn c p process = (log : List Entry) → IsOpen MayStand c.system log → Follows c.system log c → MayCut c.system log p process

-- after its synchronisation it is as it is after the take
synced_state : (process : Process) → state_of (synced process) ≡ state_of (cut_of process)
synced_state process = ap (λ (r : Ram). record { small = (cut_of process).small; memory = r.bytes; mail = ((cut_of process).mail).letters; next = ((cut_of process).mail).next }) (sym (cut_keeps process).ram)

-- ---- a process of a cluster that follows a log, where nothing is queued and the process may synchronise

module _ (c : ClusterView) (p : Pid) (process : Process) (valid : is_system c.system ≡ true) (empty : c.queue ≡ []) (there : held_at c p ≡ Some (Runs process)) (log : List Entry) (go : IsOpen MayStand c.system log) (f : Follows c.system log c)
    (may : MayCut c.system log p process) where
  legal : IsLegalBy Stands c.system log
  legal = all_stand c.system log go.0

  home_of : (q : Pid) (h : Held) → held_at c q ≡ Some h → HomeHere (placement c.system log) q c.number
  home_of q h at = home_here (placement c.system log) c.number (pids_in c.here) q (pids_apart c.system log valid go.0) (f.processes).each_once (is_among c.here q h at)

  held_so : (q : Pid) (h : Held) → held_at c q ≡ Some h → IsHeldAs c.system log [] q h
  held_so q h at = subst (λ ps. IsHeldAs c.system log ps q h) empty ((f.processes).held q h at)

  marked_so : (q : Pid) (h : Held) → MarkedIfThere CarriesMarks c.system (with_queue c.system log c.queue) q (unended_process h) → MarkedIfThere CarriesMarks c.system log q (unended_process h)
  marked_so q h = subst (λ ps. MarkedIfThere CarriesMarks c.system (with_queue c.system log ps) q (unended_process h)) empty

  home : HomeHere (placement c.system log) p c.number
  home = home_of p (Runs process) there

  reached : silent_upto c.system log p (process.small).steps ≡ Some (state_of process)
  reached = held_so p (Runs process) there

  has : has_its_pages c.system log p ≡ true
  has = f.pages p (Runs process) there refl

  carries : CarriesMarks c.system log p process
  carries = carried c.system log p process valid reached legal (ap is_some home.found) (marked_so p (Runs process) (f.marks p (Runs process) there))

  marked : RunsMarked c.system log p process
  marked = runs_marked c.system log p process valid reached legal (ap is_some home.found) carries

  may_send : MaySend c.system log (Cluster c.number) p (state_of process)
  may_send = record { goes_on = go.1; by_home = home_by (placement c.system log) c.number p (home_lives c.system log p c.number valid go.0 go.1 home) home; reached = reached }

  -- its batch is under way, with all its pages left
  begins : BatchMay c.system log c.number p (state_of (synced process)) (cut_of process).read (took_by process) (marked_pages process)
  begins = subst (λ s. BatchMay c.system log c.number p s (cut_of process).read (took_by process) (marked_pages process)) (sym (synced_state process)) (batch_begins c.system log p process c.number marked may_send may.children may.due)

  posts : batch process c.number ≡ posts_left c.number p (state_of (synced process)) (cut_of process).read (took_by process) (marked_pages process)
  posts = batch_posts c.system log p process c.number marked ∙ ap (λ s. posts_left c.number p s (cut_of process).read (took_by process) (marked_pages process)) (sym (synced_state process))

  kept : Keeps process (cut_of process)
  kept = cut_keeps process

  -- ---- the cluster then

  abbrev new : ClusterView
  new = record c { here = with_changed p (Runs (synced process)) c.here; queue = batch process c.number; steps = next_count c.steps }

  synchronises : Synchronises c.system log new
  synchronises = record {
    pid = p;
    process = synced process;
    read = (cut_of process).read;
    took = took_by process;
    indices = marked_pages process;
    posts = posts;
    there = changed_there p (Runs (synced process)) c.here (Runs process) there;
    within =
        ap (λ o. option_map_or (keeps_limits c.system log p) o false) (ap (silent_upto c.system log p) kept.steps ∙ reached)
        ∙ own_within c.system log p process marked ∙ f.limits p (Runs process) there;
    may = begins;
    unread = refl;
    since = sym kept.steps;
    unmarked = ap (λ n. replicate n false) (sym carries.pages ∙ sym kept.pages);
  }

  -- the others have their marks as before
  others_marked : (q : Pid) (h : Held) → held_at new q ≡ Some h → all_but p q ≡ true → MarkedIfThere CarriesMarks c.system log q (unended_process h)
  others_marked q h at other =
      let w = found_changed p (Runs (synced process)) c.here q h at in
      subst (λ x. MarkedIfThere CarriesMarks c.system log q (unended_process x)) (sym (w.is.1 (turned q p (not-true (same_pid p q) other)))) (marked_so q w.was (f.marks q w.was w.there))

  -- and are held as before
  others_held : (q : Pid) (h : Held) → held_at new q ≡ Some h → HeldOf (all_but p) c.system log [] q h
  others_held q h at = by_pid (same_pid p q) refl
    where
      w : FoundChanged p (Runs (synced process)) c.here q h
      w = found_changed p (Runs (synced process)) c.here q h at

      by_pid : (b : Bool) → same_pid p q ≡ b → HeldOf (all_but p) c.system log [] q h
      by_pid true own = subst (λ x. HeldOf (all_but p) c.system log [] q x) (sym (w.is.0 (eq-eqb q.0 p.0 (sym (eqb-true p.0 q.0 own))))) (λ passes. absurd (true≢false (sym passes ∙ ap not own)))
      by_pid false other = any_of (all_but p) c.system log [] q h (subst (λ x. IsHeldAs c.system log [] q x) (sym (w.is.1 (turned q p other))) (held_so q w.was w.there))

  beside : FollowsBeside (all_but p) c.system log (unqueued new)
  beside = record {
    log = record { cursor = (f.log).cursor; places = (f.log).places };
    processes = record {
      held = others_held;
      each_once = ap rising (pids_changed p (Runs (synced process)) c.here) ∙ (f.processes).each_once;
    };
    queue = record { own = refl; legal = tt };
    queued = record { queued = Nothing; posts = refl; together = tt };
    steps = record { counted = λ kept. more_counted (least_steps log log c.number + cond c.tried 1 0) c.steps ((f.steps).counted kept) };
    limits = limits_beside c p (Runs (synced process)) f.limits (synced_within c.system process);
    pages = pages_beside c log p (Runs (synced process)) f.pages (λ some. has);
    marks = others_marked;
    records = f.records;
    family = f.family;
    owed = f.owed;
    backups = backups_beside c log p (Runs (synced process)) f.backups (λ begun. f.backups p (Runs process) there refl);
    forks = forks_changed c.family p (Runs process) (Runs (synced process)) c.here there (record { waits = refl; bears = λ child. refl }) f.forks;
    accounts = record {
      keeps = (f.accounts).keeps;
      there = (f.accounts).there;
      calls = λ kept serves. subst (λ ps. capped (least_calls c.system log (with_queue c.system log ps) c.number) ≤ disk_calls c) empty ((f.accounts).calls kept serves);
    };
    disk = f.disk;
  }

  follows_batch : Follows c.system log new
  unfolding synchronises
  follows_batch = with_batch c.system log new synchronises valid go beside (subst (SentUpto c.system log p) (sym kept.steps) carries.sent)

-- Where nothing is queued and a process that runs here may synchronise, a cluster goes on with the process synchronised and its batch queued.
pub batch_goes_on : (c : ClusterView) (p : Pid) (process : Process) → is_system c.system ≡ true → c.queue ≡ [] → held_at c p ≡ Some (Runs process) → MayCutIn c p process
    → GoesOn c (record c { here = with_changed p (Runs (synced process)) c.here; queue = batch process c.number; steps = next_count c.steps })
batch_goes_on c p process valid empty there may log go f = follows_batch c p process valid empty there log go f (may log go f)
