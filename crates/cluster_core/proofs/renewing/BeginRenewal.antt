-- A process that is to get a new backup gets what brings it: with its changed pages and its new backup queued a cluster goes on to follow each log that it followed.
use Rattle.std.proofs.Common.{◌≡◌, ℕ, ◌+◌, ◌≤◌, refl, sym, ◌∙◌, ap, subst, List, [], ◌∷◌, ◌++◌, map, true, false, Bool, cond, not, ◌&&◌, eq-eqb, eqb-true, Some, None, is_some, true≢false}
use Rattle.std.specs.Prelude.{replicate}
use Rattle.std.specs.List.{list_all}
use Rattle.std.proofs.lemmas.Bool.{and_from, not-true}
use Rattle.t32_base.specs.declared.process.Pid.{Pid}
use Rattle.t32_base.specs.declared.process.ClusterNo.{ClusterNo}
use Rattle.sys_text.specs.Valid.{is_system}
use Rattle.rv_mem.specs.Memory.{page_at}
use Rattle.proc_state.specs.declared.process.Process.{Process}
use Rattle.proc_state.specs.State.{state_of}
use Rattle.bus_msg.specs.declared.entry.By.TheVariants.{Cluster}
use Rattle.bus_msg.specs.declared.entry.What.TheVariants.{Page}
use Rattle.bus_msg.specs.declared.entry.Entry.{Entry}
use Rattle.bus_msg.specs.declared.entry.Post.{Post}
use Rattle.bus_msg.specs.NewBackup.{next_backup_at}
use Rattle.bus_msg.specs.Places.{same_pid}
use Rattle.birth_notice.specs.Family.{first_unsynced}
use Rattle.cert_sched.specs.Parts.{rising}
use Rattle.cert_sched.specs.Schedule.{placement}
use Rattle.cert_sched.specs.Steps.{silent_upto}
use Rattle.cert_sched.specs.Legal.{IsLegalBy, Stands, MayStand}
use Rattle.cert_sched.specs.Losses.{capped, is_from, least_calls, least_steps}
use Rattle.cert_sched.specs.Rules.{has_its_pages}
use Rattle.log_laws.proofs.records.Standing.{all_stand}
use Rattle.sync_point.specs.Batch.{marked_pages, page_post}
use Rattle.checkpoint_laws.specs.posts.Running.{RunsMarked}
use Rattle.checkpoint_laws.specs.posts.Sending.{MaySend}
use Rattle.checkpoint_laws.proofs.batches.BatchBegins.{pages_begin}
use Rattle.checkpoint_laws.proofs.posts.BatchStands.{own_pid}
use Rattle.backup_mode.specs.Posts.{fresh_post}
use Rattle.backup_mode.specs.Renewal.{cleared, renewal}
use Rattle.residents.specs.Held.{Held, Runs}
use Rattle.residents.specs.Residents.{pids_in}
use Rattle.residents.specs.Changed.{with_changed}
use Rattle.residents.proofs.Changing.{FoundChanged, changed_there, found_changed, pids_changed}
use Rattle.cluster_core.specs.Calls.{GoesOn}
use Rattle.cluster_core.specs.Follows.{Follows, IsOpen}
use Rattle.cluster_core.specs.Holds.{CarriesMarks, IsHeldAs, MarkedIfThere, unended_process}
use Rattle.cluster_core.specs.Parts.{AllOwn, IsOwn}
use Rattle.cluster_core.specs.Queue.{Nothing, with_queue}
use Rattle.cluster_core.specs.Renewing.{Renews, renewing_left}
use Rattle.cluster_core.specs.Sent.{is_sent}
use Rattle.cluster_core.specs.View.{ClusterView, disk_calls, held_at, next_count}
use Rattle.cluster_core.proofs.births.ChildrenKept.{synced_where_none}
use Rattle.cluster_core.proofs.forks.ForksAgain.{forks_changed, run_forks}
use Rattle.cluster_core.proofs.here.Beside.{FollowsBeside, HeldOf, any_of}
use Rattle.cluster_core.proofs.here.Here.{is_among}
use Rattle.cluster_core.proofs.here.Within.{carried, own_within, runs_marked}
use Rattle.cluster_core.proofs.losses.Homes.{HomeHere, pids_apart, home_here, home_lives}
use Rattle.cluster_core.proofs.renewing.Renewing.{with_renewal}
use Rattle.cluster_core.proofs.syncs.Batching.{all_but, unqueued}
use Rattle.cluster_core.proofs.working.Working.{backups_beside, home_by, limits_beside, more_counted, pages_beside, turned}

-- ---- its posts

-- a test that each page passes, and the new backup, all of them pass
each_post : (test : Post → Bool) (process : Process) (to k : ClusterNo) (indices : List ℕ) → ((i : ℕ) → test (page_post process k i) ≡ true)
    → test (fresh_post k to (process.small).pid (state_of process)) ≡ true
    → list_all test (map (page_post process k) indices ++ fresh_post k to (process.small).pid (state_of process) ∷ []) ≡ true
each_post test process to k [] pages backup = ap (λ b. b && true) backup
each_post test process to k (i ∷ indices) pages backup =
    and_from (test (page_post process k i)) (list_all test (map (page_post process k) indices ++ fresh_post k to (process.small).pid (state_of process) ∷ [])) (pages i)
    (each_post test process to k indices pages backup)

-- They are the cluster's own.
pub renewal_own : (k : ClusterNo) (process : Process) (to : ClusterNo) → list_all (λ (post : Post). is_from k post.by) (renewal process to k) ≡ true
renewal_own k process to = each_post (λ (post : Post). is_from k post.by) process to k (marked_pages process) (λ i. eq-eqb k.0 k.0 refl) (eq-eqb k.0 k.0 refl)

-- They are of kinds that clusters send.
pub renewal_sent : (process : Process) (to k : ClusterNo) → list_all (λ (post : Post). is_sent post.what) (renewal process to k) ≡ true
renewal_sent process to k = each_post (λ (post : Post). is_sent post.what) process to k (marked_pages process) (λ i. refl) refl

-- A process without its marks stands under its own pid as before.
pub own_cleared : (cursor : ℕ) (pid : Pid) (process : Process) → IsOwn cursor pid process → IsOwn cursor pid (cleared process)
own_cleared cursor pid process own = record { pid_is = own.pid_is; arrived = own.arrived }

-- ---- a process that runs in a cluster that follows a log, where nothing is queued, that is to get this backup, and whose children synchronised

module _ (c : ClusterView) (p : Pid) (process : Process) (to : ClusterNo) (valid : is_system c.system ≡ true) (empty : c.queue ≡ []) (there : held_at c p ≡ Some (Runs process))
    (owed : next_backup_at c.places p ≡ Some to) (childless : first_unsynced c.family p ≡ None) (log : List Entry) (go : IsOpen MayStand c.system log) (f : Follows c.system log c) where
  legal : IsLegalBy Stands c.system log
  legal = all_stand c.system log go.0

  held_so : (q : Pid) (h : Held) → held_at c q ≡ Some h → IsHeldAs c.system log [] q h
  held_so q h at = subst (λ ps. IsHeldAs c.system log ps q h) empty ((f.processes).held q h at)

  marked_so : (q : Pid) (h : Held) → held_at c q ≡ Some h → MarkedIfThere CarriesMarks c.system log q (unended_process h)
  marked_so q h at = subst (λ ps. MarkedIfThere CarriesMarks c.system (with_queue c.system log ps) q (unended_process h)) empty (f.marks q h at)

  home : HomeHere (placement c.system log) p c.number
  home = home_here (placement c.system log) c.number (pids_in c.here) p (pids_apart c.system log valid go.0) (f.processes).each_once (is_among c.here p (Runs process) there)

  reached : silent_upto c.system log p (process.small).steps ≡ Some (state_of process)
  reached = held_so p (Runs process) there

  has : has_its_pages c.system log p ≡ true
  has = f.pages p (Runs process) there refl

  carries : CarriesMarks c.system log p process
  carries = carried c.system log p process valid reached legal (ap is_some home.found) (marked_so p (Runs process) there)

  marked : RunsMarked c.system log p process
  marked = runs_marked c.system log p process valid reached legal (ap is_some home.found) carries

  may_send : MaySend c.system log (Cluster c.number) p (state_of process)
  may_send = record { goes_on = go.1; by_home = home_by (placement c.system log) c.number p (home_lives c.system log p c.number valid go.0 go.1 home) home; reached = reached }

  named : (process.small).pid ≡ p
  named = own_pid c.system log p (state_of process) (process.small).steps reached

  posts : renewal process to c.number ≡ renewing_left c.number (Some to) p (state_of (cleared process)) (marked_pages process)
  posts =
      λ j. map (λ i. let post : Post = record { by = Cluster c.number; what = Page (named j) (process.small).steps i (page_at (process.ram).bytes i) } in post) (marked_pages process)
      ++ fresh_post c.number to (named j) (state_of process) ∷ []

  -- ---- the cluster then

  abbrev new : ClusterView
  new = record c { here = with_changed p (Runs (cleared process)) c.here; queue = renewal process to c.number; steps = next_count c.steps }

  renews : Renews c.system log new
  renews = record {
    pid = p;
    process = cleared process;
    to = Some to;
    indices = marked_pages process;
    posts = posts;
    there = changed_there p (Runs (cleared process)) c.here (Runs process) there;
    owed = ap (λ places. next_backup_at places p) (sym (f.log).places) ∙ owed;
    within = own_within c.system log p process marked ∙ f.limits p (Runs process) there;
    may = pages_begin c.system log p process c.number marked may_send (synced_where_none c log f p childless);
    counts = record { since_start = (carries.marked).since_start; read = (carries.marked).read };
    unmarked = ap (λ n. replicate n false) (sym carries.pages);
  }

  -- the others have their marks as before
  others_marked : (q : Pid) (h : Held) → held_at new q ≡ Some h → all_but p q ≡ true → MarkedIfThere CarriesMarks c.system log q (unended_process h)
  others_marked q h at other =
      let w = found_changed p (Runs (cleared process)) c.here q h at in
      subst (λ x. MarkedIfThere CarriesMarks c.system log q (unended_process x)) (sym (w.is.1 (turned q p (not-true (same_pid p q) other)))) (marked_so q w.was w.there)

  -- and are held as before
  others_held : (q : Pid) (h : Held) → held_at new q ≡ Some h → HeldOf (all_but p) c.system log [] q h
  others_held q h at = by_pid (same_pid p q) refl
    where
      w : FoundChanged p (Runs (cleared process)) c.here q h
      w = found_changed p (Runs (cleared process)) c.here q h at

      by_pid : (b : Bool) → same_pid p q ≡ b → HeldOf (all_but p) c.system log [] q h
      by_pid true own = subst (λ x. HeldOf (all_but p) c.system log [] q x) (sym (w.is.0 (eq-eqb q.0 p.0 (sym (eqb-true p.0 q.0 own))))) (λ passes. absurd (true≢false (sym passes ∙ ap not own)))
      by_pid false other = any_of (all_but p) c.system log [] q h (subst (λ x. IsHeldAs c.system log [] q x) (sym (w.is.1 (turned q p other))) (held_so q w.was w.there))

  beside : FollowsBeside (all_but p) c.system log (unqueued new)
  beside = record {
    log = record { cursor = (f.log).cursor; places = (f.log).places };
    processes = record {
      held = others_held;
      each_once = ap rising (pids_changed p (Runs (cleared process)) c.here) ∙ (f.processes).each_once;
    };
    queue = record { own = refl; legal = tt };
    queued = record { queued = Nothing; posts = refl; together = tt };
    steps = record { counted = λ kept. more_counted (least_steps log log c.number + cond c.tried 1 0) c.steps ((f.steps).counted kept) };
    limits = limits_beside c p (Runs (cleared process)) f.limits (f.limits p (Runs process) there);
    pages = pages_beside c log p (Runs (cleared process)) f.pages (λ some. has);
    marks = others_marked;
    records = f.records;
    family = f.family;
    owed = f.owed;
    backups = backups_beside c log p (Runs (cleared process)) f.backups (λ begun. f.backups p (Runs process) there refl);
    forks = forks_changed c.family p (Runs process) (Runs (cleared process)) c.here there (run_forks process (cleared process)) f.forks;
    accounts = record {
      keeps = (f.accounts).keeps;
      there = (f.accounts).there;
      calls = λ kept serves. subst (λ ps. capped (least_calls c.system log (with_queue c.system log ps) c.number) ≤ disk_calls c) empty ((f.accounts).calls kept serves);
    };
    disk = f.disk;
  }

  follows_renewal : Follows c.system log new
  unfolding renews
  follows_renewal = with_renewal c.system log new renews valid go beside carries.sent

-- Where nothing is queued and a process that runs here is to get a new backup, a cluster goes on with the process without its marks, and with what brings the backup queued.
pub renewal_goes_on : (c : ClusterView) (p : Pid) (process : Process) (to : ClusterNo) → is_system c.system ≡ true → c.queue ≡ [] → AllOwn c.cursor c.here → held_at c p ≡ Some (Runs process)
    → next_backup_at c.places p ≡ Some to → first_unsynced c.family p ≡ None
    → GoesOn c (record c { here = with_changed p (Runs (cleared process)) c.here; queue = renewal process to c.number; steps = next_count c.steps })
renewal_goes_on c p process to valid empty _ there owed childless log go f = follows_renewal c p process to valid empty there owed childless log go f
