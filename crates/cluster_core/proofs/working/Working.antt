-- A cluster that works goes on to follow each log that it followed.
use Rattle.std.proofs.Common.{◌≡◌, ℕ, zero, suc, ◌+◌, ◌-◌, ◌≤◌, ◌<◌, refl, sym, ◌∙◌, ap, subst, arith, List, [], ◌∷◌, Bool, true, false, cond, ◌&&◌, eqb-true, eq-eqb, add-zero, Option, Some, None, is_none, is_some, inl, inr, true≢false}
use Rattle.std.specs.Prelude.{option_map, option_and_then}
use Rattle.std.specs.Option.{option_map_or}
use Rattle.t32_base.specs.declared.process.Pid.{Pid}
use Rattle.t32_base.specs.declared.process.ClusterNo.{ClusterNo}
use Rattle.sys_text.specs.declared.system.System.{System}
use Rattle.sys_text.specs.Valid.{is_system}
use Rattle.proc_state.specs.declared.process.Process.{Process}
use Rattle.proc_state.specs.State.{ProcState, state_of, can_take}
use Rattle.sys_calls.specs.declared.steps.Emission.{Emission}
use Rattle.sys_calls.specs.declared.steps.Emission.TheVariants.{Mail as Sent, Exit as Ended}
use Rattle.sys_calls.specs.Calls.{Emits}
use Rattle.sys_calls.specs.Next.{next_step, is_end, silently, silent_of, emission_of, last_emission}
use Rattle.sys_calls.proofs.Counting.{silently_counts, emits_counts, letter_is_own}
use Rattle.bus_msg.specs.declared.entry.What.TheVariants.{Mail, Exit}
use Rattle.bus_msg.specs.declared.entry.By.TheVariants.{Cluster}
use Rattle.bus_msg.specs.declared.entry.Post.{Post}
use Rattle.bus_msg.specs.declared.entry.Entry.{Entry}
use Rattle.bus_msg.specs.declared.placed.Placed.{Placed}
use Rattle.bus_msg.specs.Places.{Places, same_pid, same_cluster}
use Rattle.cert_sched.specs.Parts.{rising}
use Rattle.cert_sched.specs.Schedule.{placement, process_after, done_after}
use Rattle.cert_sched.specs.Steps.{silent_upto, emission_at, after_items}
use Rattle.cert_sched.specs.Rules.{has_awaited_backup, has_its_pages, keeps_limits, is_by, is_living, is_by_home, is_by_right, is_new_page, home_at}
use Rattle.birth_notice.specs.Family.{first_unsynced}
use Rattle.cert_sched.specs.Kinds.{ChildrenSynced, KindHolds}
use Rattle.cert_sched.specs.Legal.{IsLegalBy, Stands, MayStand, KeepsWaits}
use Rattle.cluster_core.specs.Sent.{is_sent, SentMayStand}
use Rattle.cert_sched.specs.Losses.{least_steps, capped, is_from, is_page_is_entry}
use Rattle.cert_sched.specs.Appended.{entry_of}
use Rattle.cert_sched.proofs.StepLaws.{Tells, sent_applies}
use Rattle.cluster_core.specs.declared.worked.Worked.TheVariants.{Moved, Queued}
use Rattle.cluster_core.specs.View.{ClusterView, held_at, limits_of, next_count, counted_once, tried_once}
use Rattle.residents.specs.Held.{Held, Runs, Rolls, Waits, IsHeldWithin, held_of}
use Rattle.residents.specs.Residents.{pids_in}
use Rattle.residents.specs.Changed.{with_changed}
use Rattle.residents.specs.ForkingAgain.{RollsAgain}
use Rattle.cluster_core.specs.Parts.{IsOwn}
use Rattle.cluster_core.proofs.absorbing.Served.{accounts_queued}
use Rattle.cluster_core.specs.Queue.{IsQueueLegal, Nothing, One, is_lone, move_of, taken_by, state_by, state_now, with_queue}
use Rattle.cluster_core.specs.Holds.{CarriesMarks, HoldsLimits, HoldsPages, IsHeldAs, MarkedIfThere, is_fetch_queued, process_in, unended_process}
use Rattle.cluster_core.specs.Standing.{HoldsBackups, has_begun}
use Rattle.cluster_core.specs.Follows.{Follows, IsOpen, QueuedIn}
use Rattle.cluster_core.specs.Calls.{GoesOn, OwesNothing, WorkIs, is_resting}
use Rattle.residents.specs.declared.quantum.Sending.{Sending}
use Rattle.residents.specs.Quantum.{EndsChildless, Moves, RollsTo, RunsTo, Sends, told_of, post_told}
use Rattle.cluster_core.proofs.births.ChildrenKept.{synced_where_none}
use Rattle.residents.proofs.Changing.{FoundChanged, found_changed, pid_same, pids_changed}
use Rattle.cluster_core.proofs.here.Here.{is_among}
use Rattle.cluster_core.proofs.absorbing.Telling.{done_is}
use Rattle.cluster_core.proofs.rolling.Catching.{rolled_held}
use Rattle.checkpoint_laws.proofs.limits.SendingLimits.{sent_keeps}
use Rattle.cluster_core.proofs.here.Within.{carried, rolled_within, runs_marked}
use Rattle.cluster_core.proofs.working.KeptLimits.{told_keeps}
use Rattle.replay_laws.proofs.forks.EitherWait.{so_alike}
use Rattle.cluster_core.proofs.forks.ForksAgain.{forks_changed, ran_forks, run_forks}
use Rattle.cluster_core.proofs.syncs.Marking.{marked_queued, queue_tells}
use Rattle.cluster_core.proofs.syncs.RunMarks.{marked_ran, marked_rolled, marked_runs, marked_sends}
use Rattle.log_laws.proofs.records.Standing.{all_stand}
use Rattle.cluster_core.proofs.losses.Homes.{HomeHere, pids_apart, home_here, home_lives}
use Rattle.std.proofs.lemmas.Bool.{or_parts}
use Rattle.sync_point.specs.Due.{is_due_by}

-- ---- kernel steps

-- one kernel step more is still enough
pub more_counted : (n s : ℕ) → capped n ≤ s → capped n ≤ next_count s
more_counted n s h = omega (arith, h)

-- ---- silent steps in two parts

silently-plus : (n m : ℕ) (s q t : ProcState) → silently n s ≡ Some q → silently m q ≡ Some t → silently (n + m) s ≡ Some t
unfolding silently
silently-plus n zero s q t first then = ap (λ k. silently k s) (add-zero n) ∙ first ∙ then
silently-plus n (suc m) s q t first then = by_case (silently m q) refl then (λ u. silently-plus n m s q u first)
  where
    by_case : (o : Option ProcState) → silently m q ≡ o → option_and_then (λ q. silent_of (next_step q)) o ≡ Some t → ((u : ProcState) → silently m q ≡ Some u → silently (n + m) s ≡ Some u) → silently (n + suc m) s ≡ Some t
    by_case None is last before = cc
    by_case (Some u) is last before =
        let count : n + suc m ≡ suc (n + m) = omega arith in
        ap (λ k. silently k s) count ∙ ap (option_and_then (λ q. silent_of (next_step q))) (before u is) ∙ last

-- ---- a process ahead of a log

-- where it stands, counted from the log
pub record Ahead (system : System) (log : List Entry) (p : Pid) (s : ProcState) : Type 0 where
  pub base : ProcState
  pub there : process_after system log p ≡ Some base
  pub silent : silently ((s.small).steps - (base.small).steps) base ≡ Some s
  pub counts : (s.small).steps ≡ (base.small).steps + ((s.small).steps - (base.small).steps)
  pub done : done_after system log p ≡ (base.small).steps

pub ahead : (system : System) (log : List Entry) (p : Pid) (s : ProcState) → silent_upto system log p (s.small).steps ≡ Some s → Ahead system log p s
unfolding silent_upto
ahead system log p s is = by_process (process_after system log p) refl is
  where
    by_process : (o : Option ProcState) → process_after system log p ≡ o → option_and_then (silently ((s.small).steps - done_after system log p)) o ≡ Some s → Ahead system log p s
    by_process None at is = cc
    by_process (Some b) at is =
        let done : done_after system log p ≡ (b.small).steps = done_is system log p ∙ ap (λ o. option_map_or (λ (s : ProcState). (s.small).steps) o 0) at in
        let silent : silently ((s.small).steps - (b.small).steps) b ≡ Some s = ap (λ n. silently ((s.small).steps - n) b) (sym done) ∙ is in
        record { base = b; there = at; silent = silent; counts = (silently_counts ((s.small).steps - (b.small).steps) b s silent).steps; done = done }

-- more silent steps
ahead_moved : (system : System) (log : List Entry) (p : Pid) (s t : ProcState) (n : ℕ) → silent_upto system log p (s.small).steps ≡ Some s → silently n s ≡ Some t → silent_upto system log p (t.small).steps ≡ Some t
unfolding silent_upto
ahead_moved system log p s t n is silent =
    let a = ahead system log p s is in
    let grown : (t.small).steps ≡ (s.small).steps + n = (silently_counts n s t silent).steps in
    let counts : (t.small).steps - done_after system log p ≡ ((s.small).steps - ((a.base).small).steps) + n = omega (arith, grown, a.done, a.counts) in
    ap (option_and_then (silently ((t.small).steps - done_after system log p))) a.there ∙ ap (λ m. silently m a.base) counts
    ∙ silently-plus ((s.small).steps - ((a.base).small).steps) n a.base s t a.silent silent

-- a step that sends something, after silent ones
ahead_sent : (system : System) (log : List Entry) (p : Pid) (s b t : ProcState) (n : ℕ) (e : Emission) → silent_upto system log p (s.small).steps ≡ Some s → silently n s ≡ Some b → next_step b ≡ Emits e t
    → emission_at system log p (t.small).steps ≡ Some (e, t)
unfolding emission_at
ahead_sent system log p s b t n e is silent sends =
    let a = ahead system log p s is in
    let grown : (b.small).steps ≡ (s.small).steps + n = (silently_counts n s b silent).steps in
    let one : (t.small).steps ≡ (b.small).steps + 1 = (emits_counts b t e sends).steps in
    let counts : (t.small).steps - done_after system log p ≡ suc (((s.small).steps - ((a.base).small).steps) + n) = omega (arith, grown, one, a.done, a.counts) in
    ap (option_and_then (last_emission ((t.small).steps - done_after system log p))) a.there ∙ ap (λ m. last_emission m a.base) counts
    ∙ ap (option_and_then (λ q. emission_of (next_step q))) (silently-plus ((s.small).steps - ((a.base).small).steps) n a.base s b a.silent silent)
    ∙ ap emission_of sends

-- ---- the processes here

-- a process that is here, in the log
pub held_before : (c : ClusterView) (log : List Entry) (p : Pid) (s : Process) → c.queue ≡ [] → Follows c.system log c → held_at c p ≡ Some (Runs s) → silent_upto c.system log p (s.small).steps ≡ Some (state_of s)
held_before c log p s empty f there = ap (λ ps. state_now c.system log ps p (s.small).steps) (sym empty) ∙ (f.processes).held p (Runs s) there

-- ---- what is queued

-- kernel steps change nothing of it
still_queued : (system : System) (log : List Entry) (c : ClusterView) (tried : Bool) (steps : ℕ) → QueuedIn system log c → QueuedIn system log (record c { tried = tried; steps = steps })
still_queued system log c tried steps (inl alone) = inl alone
still_queued system log c tried steps (inr (inr (inr (inl hands)))) = inr (inr (inr (inl (record { post = hands.post; posts = hands.posts; to = hands.to; recs = hands.recs; standing = hands.standing }))))
still_queued system log c tried steps (inr (inr (inr (inr y)))) = inr (inr (inr (inr (record {
  pid = y.pid;
  process = y.process;
  to = y.to;
  indices = y.indices;
  posts = y.posts;
  there = y.there;
  owed = y.owed;
  within = y.within;
  may = y.may;
  counts = y.counts;
  unmarked = y.unmarked;
}))))
still_queued system log c tried steps (inr (inr (inl birth))) = inr (inr (inl (record {
  pid = birth.pid;
  process = birth.process;
  child = birth.child;
  posts = birth.posts;
  there = birth.there;
  stands = birth.stands;
  undue = birth.undue;
  next = birth.next;
})))
still_queued system log c tried steps (inr (inl batch)) = inr (inl (record {
  pid = batch.pid;
  process = batch.process;
  read = batch.read;
  took = batch.took;
  indices = batch.indices;
  posts = batch.posts;
  there = batch.there;
  may = batch.may;
  unread = batch.unread;
  since = batch.since;
  unmarked = batch.unmarked;
  within = batch.within;
}))

-- ---- nothing can move

pub goes_on_rested : (c : ClusterView) → GoesOn c (counted_once c)
goes_on_rested c log now f = record {
  log = record { cursor = (f.log).cursor; places = (f.log).places };
  processes = record { held = (f.processes).held; each_once = (f.processes).each_once };
  queue = record { own = (f.queue).own; legal = (f.queue).legal };
  queued = still_queued c.system log c c.tried (next_count c.steps) f.queued;
  steps = record { counted = λ kept. more_counted (least_steps log log c.number + cond c.tried 1 0) c.steps ((f.steps).counted kept) };
  limits = f.limits;
  pages = f.pages;
  marks = f.marks;
  records = f.records;
  family = f.family;
  owed = f.owed;
  backups = f.backups;
  forks = f.forks;
  accounts = record { keeps = (f.accounts).keeps; there = (f.accounts).there; calls = (f.accounts).calls };
  disk = f.disk;
}

-- ---- its head was tried

more_tried : (n s : ℕ) (b : Bool) → capped (n + cond b 1 0) ≤ s → capped (n + 1) ≤ next_count s
more_tried n s true h = omega (arith, h)
more_tried n s false h = omega (arith, h)

-- a head that is tried is one kernel step more
pub follows_tried : (c : ClusterView) (log : List Entry) → Follows c.system log c → Follows c.system log (tried_once c)
follows_tried c log f = record {
  log = record { cursor = (f.log).cursor; places = (f.log).places };
  processes = record { held = (f.processes).held; each_once = (f.processes).each_once };
  queue = record { own = (f.queue).own; legal = (f.queue).legal };
  queued = still_queued c.system log c true (next_count c.steps) f.queued;
  steps = record { counted = λ kept. more_tried (least_steps log log c.number) c.steps c.tried ((f.steps).counted kept) };
  limits = f.limits;
  pages = f.pages;
  marks = f.marks;
  records = f.records;
  family = f.family;
  owed = f.owed;
  backups = f.backups;
  forks = f.forks;
  accounts = record { keeps = (f.accounts).keeps; there = (f.accounts).there; calls = (f.accounts).calls };
  disk = f.disk;
}

pub goes_on_tried : (c : ClusterView) → GoesOn c (tried_once c)
goes_on_tried c log now f = follows_tried c log f

-- ---- one of them moved

abbrev pub moved_view : ClusterView → List (Pid × Held) → ClusterView
moved_view c here = record c { here = here; steps = next_count c.steps }

pub moved_work : (c : ClusterView) (p : Pid) (made : ℕ) (mid : List (Pid × Held)) (was now : Held) → OwesNothing c → is_resting c ≡ false → RollsAgain p made c.here mid → held_of mid p ≡ Some was → Moves (limits_of c.system) 64 made was now → WorkIs c Moved (moved_view c (with_changed p now mid))
moved_work c p made mid was now nothing busy again there moves = (nothing, busy, record { pid = p; made = made; mid = mid; again = again; was = was; now = now; there = there; moves = moves; rest = refl })

-- what is held after one process has changed, where the others are held as before
pub held_beside : (c : ClusterView) (log : List Entry) (p : Pid) (now : Held) (queue : List Post) → Follows c.system log c
    → IsHeldAs c.system log queue p now → ((q : Pid) (h : Held) → same_pid q p ≡ false → IsHeldAs c.system log c.queue q h → IsHeldAs c.system log queue q h)
    → (q : Pid) (h : Held) → held_of (with_changed p now c.here) q ≡ Some h → IsHeldAs c.system log queue q h
held_beside c log p now queue f mine others q h at = by_pid (same_pid q p) refl
  where
    w : FoundChanged p now c.here q h
    w = found_changed p now c.here q h at

    by_pid : (b : Bool) → same_pid q p ≡ b → IsHeldAs c.system log queue q h
    by_pid true own =
        let At : Pid → Type 0 = λ r. IsHeldAs c.system log queue r now in
        subst (λ (x : Held). IsHeldAs c.system log queue q x) (sym (w.is.0 own)) (subst At (sym (pid_same q p (eqb-true q.0 p.0 own))) mine)
    by_pid false other =
        let old : IsHeldAs c.system log c.queue q w.was = (f.processes).held q w.was w.there in
        subst (λ (x : Held). IsHeldAs c.system log queue q x) (sym (w.is.1 other)) (others q w.was other old)

-- who makes steps runs or rolls forward
runs_in : (m : ℕ) (was now : Held) → RunsTo m was now → is_some (process_in was) ≡ true
runs_in m (Waits waiting) now runs = absurd runs
runs_in m _ now runs = refl

-- the others have their pages as before
pub pages_beside : (c : ClusterView) (log : List Entry) (p : Pid) (now : Held) → HoldsPages c.system log c → (is_some (process_in now) ≡ true → has_its_pages c.system log p ≡ true)
    → (q : Pid) (h : Held) → held_of (with_changed p now c.here) q ≡ Some h → is_some (process_in h) ≡ true → has_its_pages c.system log q ≡ true
pages_beside c log p now pages mine q h at = by_pid (same_pid q p) refl
  where
    w : FoundChanged p now c.here q h
    w = found_changed p now c.here q h at

    by_pid : (b : Bool) → same_pid q p ≡ b → is_some (process_in h) ≡ true → has_its_pages c.system log q ≡ true
    by_pid true own some = ap (has_its_pages c.system log) (pid_same q p (eqb-true q.0 p.0 own)) ∙ mine (ap (λ x. is_some (process_in x)) (sym (w.is.0 own)) ∙ some)
    by_pid false other some = pages q w.was w.there (ap (λ x. is_some (process_in x)) (sym (w.is.1 other)) ∙ some)

-- who runs or rolls forward has begun
pub acts : (h : Held) → is_some (process_in h) ≡ true → has_begun h ≡ true
acts (Runs s) some = refl
acts (Rolls s counts births) some = refl
acts (Waits w) some = absurd (true≢false (sym some))

-- the others wait for a new backup no more than before
pub backups_beside : (c : ClusterView) (log : List Entry) (p : Pid) (now : Held) → HoldsBackups c.system log c → (has_begun now ≡ true → has_awaited_backup c.system log p ≡ true)
    → (q : Pid) (h : Held) → held_of (with_changed p now c.here) q ≡ Some h → has_begun h ≡ true → has_awaited_backup c.system log q ≡ true
backups_beside c log p now backups mine q h at = by_pid (same_pid q p) refl
  where
    w : FoundChanged p now c.here q h
    w = found_changed p now c.here q h at

    by_pid : (b : Bool) → same_pid q p ≡ b → has_begun h ≡ true → has_awaited_backup c.system log q ≡ true
    by_pid true own begun = ap (has_awaited_backup c.system log) (pid_same q p (eqb-true q.0 p.0 own)) ∙ mine (ap has_begun (sym (w.is.0 own)) ∙ begun)
    by_pid false other begun = backups q w.was w.there (ap has_begun (sym (w.is.1 other)) ∙ begun)

-- the others are within their limits as before
pub limits_beside : (c : ClusterView) (p : Pid) (now : Held) → HoldsLimits c.system c → IsHeldWithin (limits_of c.system) now → (q : Pid) (h : Held) → held_of (with_changed p now c.here) q ≡ Some h → IsHeldWithin (limits_of c.system) h
limits_beside c p now limits mine q h at = by_pid (same_pid q p) refl
  where
    w : FoundChanged p now c.here q h
    w = found_changed p now c.here q h at

    by_pid : (b : Bool) → same_pid q p ≡ b → IsHeldWithin (limits_of c.system) h
    by_pid true own = subst (IsHeldWithin (limits_of c.system)) (sym (w.is.0 own)) mine
    by_pid false other = subst (IsHeldWithin (limits_of c.system)) (sym (w.is.1 other)) (limits q w.was w.there)

-- the others are marked as before
pub marks_beside : (c : ClusterView) (log : List Entry) (p : Pid) (now : Held) (queue : List Post) → Follows c.system log c → MarkedIfThere CarriesMarks c.system (with_queue c.system log queue) p (unended_process now)
    → ((q : Pid) (h : Held) → same_pid q p ≡ false → held_at c q ≡ Some h → MarkedIfThere CarriesMarks c.system (with_queue c.system log c.queue) q (unended_process h) → MarkedIfThere CarriesMarks c.system (with_queue c.system log queue) q (unended_process h))
    → (q : Pid) (h : Held) → held_of (with_changed p now c.here) q ≡ Some h → MarkedIfThere CarriesMarks c.system (with_queue c.system log queue) q (unended_process h)
marks_beside c log p now queue f mine others q h at = by_pid (same_pid q p) refl
  where
    w : FoundChanged p now c.here q h
    w = found_changed p now c.here q h at

    by_pid : (b : Bool) → same_pid q p ≡ b → MarkedIfThere CarriesMarks c.system (with_queue c.system log queue) q (unended_process h)
    by_pid true own =
        let At : Pid → Type 0 = λ r. MarkedIfThere CarriesMarks c.system (with_queue c.system log queue) r (unended_process now) in
        subst (λ (x : Held). MarkedIfThere CarriesMarks c.system (with_queue c.system log queue) q (unended_process x)) (sym (w.is.0 own)) (subst At (sym (pid_same q p (eqb-true q.0 p.0 own))) mine)
    by_pid false other =
        subst (λ (x : Held). MarkedIfThere CarriesMarks c.system (with_queue c.system log queue) q (unended_process x)) (sym (w.is.1 other)) (others q w.was other w.there (f.marks q w.was w.there))

-- with a post that is queued where nothing was a process has the marks that it had
pub marks_queued : (c : ClusterView) (log : List Entry) (post : Post) → is_system c.system ≡ true → c.queue ≡ [] → IsOpen MayStand c.system log → Follows c.system log c → is_lone post.what ≡ true → is_from c.number post.by ≡ true
    → SentMayStand c.system log (entry_of c.system log post) → (q : Pid) (h : Held) → held_at c q ≡ Some h → IsHeldAs c.system log (post ∷ []) q h → MarkedIfThere CarriesMarks c.system (with_queue c.system log c.queue) q (unended_process h)
    → MarkedIfThere CarriesMarks c.system (with_queue c.system log (post ∷ [])) q (unended_process h)
marks_queued c log post valid empty go f lone own may q h there held m =
    let home = home_here (placement c.system log) c.number (pids_in c.here) q (pids_apart c.system log valid go.0) (f.processes).each_once (is_among c.here q h there) in
    marked_queued c.system log q valid (all_stand c.system log go.0) (ap is_some home.found) (One post) h lone (queue_tells c.system log c.number (One post) (ap (λ b. b && true) own) (may, tt)) held
    (subst (λ ps. MarkedIfThere CarriesMarks c.system (with_queue c.system log ps) q (unended_process h)) empty m)

-- a process of a cluster that follows a log, with its cluster
module _ (c : ClusterView) (p : Pid) (was : Held) (empty : c.queue ≡ []) (there : held_at c p ≡ Some was) (valid : is_system c.system ≡ true) (log : List Entry) (now : IsOpen MayStand c.system log) (f : Follows c.system log c) where
  pub home_of_it : HomeHere (placement c.system log) p c.number
  home_of_it = home_here (placement c.system log) c.number (pids_in c.here) p (pids_apart c.system log valid now.0) (f.processes).each_once (is_among c.here p was there)

  -- it is held as the log says, where nothing is queued
  pub held_there : IsHeldAs c.system log [] p was
  held_there = subst (λ ps. IsHeldAs c.system log ps p was) empty ((f.processes).held p was there)

  -- after steps that are withheld so it is
  pub held_between : (n : ℕ) (between : Held) → RollsTo n was between → IsHeldAs c.system log [] p between
  held_between n between rolls = rolled_held c.system log p valid now (ap is_some home_of_it.found) n was between held_there rolls

  -- and after silent ones
  pub held_moved : (made : ℕ) (new : Held) → Moves (limits_of c.system) 64 made was new → IsHeldAs c.system log [] p new
  held_moved made new m = by_parts was new held_there m.runs
    where
      by_parts : (was new : Held) → IsHeldAs c.system log [] p was → RunsTo m.silent was new → IsHeldAs c.system log [] p new
      by_parts (Runs q) (Runs r) held runs = ahead_moved c.system log p (state_of q) (state_of r) m.silent held runs.silent
      by_parts (Runs q) (Rolls r left unborn) held runs = absurd runs
      by_parts (Runs q) (Waits waiting) held runs = absurd runs
      by_parts (Rolls q left unborn) new held runs = subst (λ (x : Held). IsHeldAs c.system log [] p x) (sym runs.1) held
      by_parts (Waits waiting) new held runs = absurd runs

  -- its marks, where nothing is queued
  pub marked_now : MarkedIfThere CarriesMarks c.system log p (unended_process was)
  marked_now = subst (λ ps. MarkedIfThere CarriesMarks c.system (with_queue c.system log ps) p (unended_process was)) empty (f.marks p was there)

  legal_now : IsLegalBy Stands c.system log
  legal_now = all_stand c.system log now.0

  pub marked_between : (n : ℕ) (between : Held) → RollsTo n was between → MarkedIfThere CarriesMarks c.system log p (unended_process between)
  marked_between n between rolls = marked_rolled c.system log p valid legal_now (ap is_some home_of_it.found) n was between held_there rolls marked_now

  -- steps that are withheld leave it within its limits
  pub within_between : (n : ℕ) (between : Held) → RollsTo n was between → IsHeldWithin (limits_of c.system) between
  within_between n between rolls = rolled_within c.system log p valid now (ap is_some home_of_it.found) n was between held_there rolls (held_between n between rolls) (marked_between n between rolls) (f.limits p was there)

  pub moved_marked : (made : ℕ) (new : Held) → Moves (limits_of c.system) 64 made was new → MarkedIfThere CarriesMarks c.system log p (unended_process new)
  moved_marked made new m = marked_runs c.system log p valid legal_now (ap is_some home_of_it.found) m.silent was new held_there m.runs marked_now

pub moved_goes_on : (c : ClusterView) (p : Pid) (made : ℕ) (was new : Held) → is_system c.system ≡ true → c.queue ≡ [] → held_at c p ≡ Some was → Moves (limits_of c.system) 64 made was new → GoesOn c (moved_view c (with_changed p new c.here))
moved_goes_on c p made was new valid empty there moves log go f = record {
  log = record { cursor = (f.log).cursor; places = (f.log).places };
  processes = record {
    held = held_beside c log p new c.queue f (subst (λ ps. IsHeldAs c.system log ps p new) (sym empty) (held_moved c p was empty there valid log go f made new moves)) (λ q h other as_before. as_before);
    each_once = ap rising (pids_changed p new c.here) ∙ (f.processes).each_once;
  };
  queue = record { own = (f.queue).own; legal = (f.queue).legal };
  queued = inl (record { queued = Nothing; posts = empty; together = tt });
  steps = record { counted = λ kept. more_counted (least_steps log log c.number + cond c.tried 1 0) c.steps ((f.steps).counted kept) };
  limits = limits_beside c p new f.limits (moves.within (f.limits p was there));
  pages = pages_beside c log p new f.pages (λ some. f.pages p was there (runs_in moves.silent was new moves.runs));
  marks = marks_beside c log p new c.queue f (subst (λ ps. MarkedIfThere CarriesMarks c.system (with_queue c.system log ps) p (unended_process new)) (sym empty) (moved_marked c p was empty there valid log go f made new moves)) (λ q h other held m. m);
  records = f.records;
  family = f.family;
  owed = f.owed;
  backups = backups_beside c log p new f.backups (λ begun. f.backups p was there (acts was (runs_in moves.silent was new moves.runs)));
  forks = forks_changed c.family p was new c.here there (ran_forks moves.silent was new moves.runs) f.forks;
  accounts = record { keeps = (f.accounts).keeps; there = (f.accounts).there; calls = (f.accounts).calls };
  disk = f.disk;
}

-- ---- one of them posted something

abbrev pub posted_view : ClusterView → List (Pid × Held) → Post → ClusterView
posted_view c here post = record c { here = here; queue = post ∷ []; steps = next_count c.steps }

-- whatever is posted is of a kind that clusters send
sent_of : (pid : Pid) (at : ℕ) (e : Emission) → is_sent (told_of pid at e) ≡ true
sent_of pid at (Sent letter) = refl
sent_of pid at (Ended end) = refl

-- and no changed page
changed_none : (system : System) (log : List Entry) (pid : Pid) (at : ℕ) (e : Emission) → is_new_page system log (told_of pid at e) ≡ true
changed_none system log pid at (Sent letter) = refl
changed_none system log pid at (Ended end) = refl

-- which is sent alone
lone_of : (pid : Pid) (at : ℕ) (e : Emission) → is_lone (told_of pid at e) ≡ true
lone_of pid at (Sent letter) = refl
lone_of pid at (Ended end) = refl

-- and no page
no_page_of : (pid : Pid) (at : ℕ) (e : Emission) → is_page_is_entry (told_of pid at e) ≡ false
no_page_of pid at (Sent letter) = refl
no_page_of pid at (Ended end) = refl

-- it waits for no pages of the process
waits_of_post : (system : System) (log : List Entry) (pid : Pid) (at : ℕ) (k : ClusterNo) (e : Emission) → Tells pid at e (told_of pid at e) → has_its_pages system log pid ≡ true → KeepsWaits system log (entry_of system log (post_told k pid at e))
waits_of_post system log pid at k (Sent letter) tells has = ap (has_its_pages system log) tells.0 ∙ has
waits_of_post system log pid at k (Ended end) tells has = has

-- what is posted tells of the process
tells_of : (s t : ProcState) (pid : Pid) (at : ℕ) (e : Emission) → next_step s ≡ Emits e t → (s.small).pid ≡ pid → Tells pid at e (told_of pid at e)
tells_of s t pid at (Sent letter) sends own = (letter_is_own s t letter sends ∙ own, refl)
tells_of s t pid at (Ended end) sends own = refl

moves_of : (pid : Pid) (at : ℕ) (k : ClusterNo) (e : Emission) → Tells pid at e (told_of pid at e) → move_of pid (post_told k pid at e ∷ []) ≡ Some (told_of pid at e)
moves_of pid at k (Sent letter) tells = ap (λ b. option_map (λ (post : Post). post.what) (cond b (Some (post_told k pid at (Sent letter))) None)) (eq-eqb (letter.from).0 pid.0 (ap (λ (p : Pid). p.0) tells.0))
moves_of pid at k (Ended end) tells = ap (λ b. option_map (λ (post : Post). post.what) (cond b (Some (post_told k pid at (Ended end))) None)) (eq-eqb pid.0 pid.0 refl)

items_of_post : (system : System) (log : List Entry) (pid : Pid) (at : ℕ) (e : Emission) (t : ProcState) → Tells pid at e (told_of pid at e) → emission_at system log pid at ≡ Some (e, t)
    → option_map (taken_by (told_of pid at e)) (after_items system log (told_of pid at e)) ≡ Some t
items_of_post system log pid at (Sent letter) t tells is =
    ap (λ p. option_map (taken_by (Mail at letter)) (option_map (λ (r : Emission × ProcState). r.1) (emission_at system log p at))) tells.0 ∙ ap (λ o. option_map (taken_by (Mail at letter)) (option_map (λ (r : Emission × ProcState). r.1) o)) is
items_of_post system log pid at (Ended end) t tells is = ap (λ o. option_map (taken_by (Exit pid at end)) (option_map (λ (r : Emission × ProcState). r.1) o)) is

kind_of_post : (system : System) (log : List Entry) (k : ClusterNo) (pid : Pid) (at : ℕ) (e : Emission) (t : ProcState) → Tells pid at e (told_of pid at e) → emission_at system log pid at ≡ Some (e, t) → (is_end e ≡ true → ChildrenSynced system log pid)
    → KindHolds system log (entry_of system log (post_told k pid at e)) (told_of pid at e)
kind_of_post system log k pid at (Sent letter) t tells is children = ap (λ p. option_map (λ (r : Emission × ProcState). r.0) (emission_at system log p at)) tells.0 ∙ ap (option_map (λ (r : Emission × ProcState). r.0)) is
kind_of_post system log k pid at (Ended end) t tells is children = (ap (option_map (λ (r : Emission × ProcState). r.0)) is, children refl)

right_of_post : (places : Places) (k : ClusterNo) (pid : Pid) (at : ℕ) (e : Emission) → Tells pid at e (told_of pid at e) → is_by_home places (Cluster k) (Some pid) ≡ true → is_by_right places (Cluster k) (told_of pid at e) ≡ true
right_of_post places k pid at (Sent letter) tells h = ap (λ p. is_by_home places (Cluster k) (Some p)) tells.0 ∙ h
right_of_post places k pid at (Ended end) tells h = h

pub home_by : (places : Places) (k : ClusterNo) (p : Pid) → is_living places (Cluster k) ≡ true → HomeHere places p k → is_by_home places (Cluster k) (Some p) ≡ true
home_by places k p lives here =
    let home : home_at places p ≡ Some (here.placed).home = ap (option_map (λ (q : Placed). q.home)) here.found in
    let same : same_cluster k (here.placed).home ≡ true = eq-eqb k.0 ((here.placed).home).0 (sym (eqb-true ((here.placed).home).0 k.0 here.home)) in
    (λ i. lives i && is_by (Cluster k) (home i)) ∙ same

pub turned : (p q : Pid) → same_pid q p ≡ false → same_pid p q ≡ false
turned p q other = by_test (same_pid p q) refl
  where
    by_test : (b : Bool) → same_pid p q ≡ b → b ≡ false
    by_test true is = absurd (true≢false (sym (eq-eqb q.0 p.0 (sym (eqb-true p.0 q.0 is))) ∙ other))
    by_test false is = refl

-- what is posted moves no other process
moves_no_other : (pid q : Pid) (at : ℕ) (k : ClusterNo) (e : Emission) → Tells pid at e (told_of pid at e) → same_pid q pid ≡ false → move_of q (post_told k pid at e ∷ []) ≡ None
moves_no_other pid q at k (Sent letter) tells other = ap (λ b. option_map (λ (post : Post). post.what) (cond b (Some (post_told k pid at (Sent letter))) None)) (ap (λ r. same_pid r q) tells.0 ∙ turned pid q other)
moves_no_other pid q at k (Ended end) tells other = ap (λ b. option_map (λ (post : Post). post.what) (cond b (Some (post_told k pid at (Ended end))) None)) (turned pid q other)

-- it asks for no page
fetches_none : (pid q : Pid) (at : ℕ) (k : ClusterNo) (e : Emission) (i : ℕ) → is_fetch_queued q (post_told k pid at e ∷ []) i ≡ false
fetches_none pid q at k (Sent letter) i = refl
fetches_none pid q at k (Ended end) i = refl

-- what it was, where its quantum sent something
module _ (c : ClusterView) (p : Pid) (made : ℕ) (was : Held) (sending : Sending) (new : Held) (s : Sends (limits_of c.system) 64 made was sending new) (post : Post)
    (post_is : post ≡ post_told c.number p ((s.now).small).steps sending.emission) (empty : c.queue ≡ []) (there : held_at c p ≡ Some was) (own : IsOwn c.cursor p s.between) (childless : EndsChildless (is_none (first_unsynced c.family p)) sending.emission) where
  none_is : {X : Type 0} → (o : Option X) → is_none o ≡ true → o ≡ None
  none_is None is = refl
  none_is (Some x) is = absurd (true≢false (sym is))

  abbrev at : ℕ
  at = ((s.now).small).steps

  abbrev e : Emission
  e = sending.emission

  runs_there : held_at c p ≡ Some (Runs s.between)
  runs_there = there ∙ ap Some s.old_is

  before_own : ((s.before).small).pid ≡ p
  before_own = (silently_counts s.silent (state_of s.between) (state_of s.before) (s.runs).silent).pid ∙ own.pid_is

  now_own : ((s.now).small).pid ≡ p
  now_own = (emits_counts (state_of s.before) (state_of s.now) e s.sends).pid ∙ before_own

  tells : Tells p at e (told_of p at e)
  tells = tells_of (state_of s.before) (state_of s.now) p at e s.sends before_own

  posted_own : is_from c.number post.by ≡ true
  posted_own = ap (λ (p : Post). is_from c.number p.by) post_is ∙ eq-eqb (c.number).0 (c.number).0 refl

  module _ (valid : is_system c.system ≡ true) (has : (c.number).0 < (c.system).clusters) (log : List Entry) (go : IsOpen MayStand c.system log) (f : Follows c.system log c) where
    emission_is : emission_at c.system log p at ≡ Some (e, state_of s.now)
    emission_is = ahead_sent c.system log p (state_of s.between) (state_of s.before) (state_of s.now) s.silent e (held_there c p (Runs s.between) empty runs_there valid log go f) (s.runs).silent s.sends

    -- before it sent that it ran, with its marks
    reached_before : silent_upto c.system log p ((s.before).small).steps ≡ Some (state_of s.before)
    reached_before = ahead_moved c.system log p (state_of s.between) (state_of s.before) s.silent (held_there c p (Runs s.between) empty runs_there valid log go f) (s.runs).silent

    marked_before : MarkedIfThere CarriesMarks c.system log p (unended_process (Runs s.before))
    marked_before =
        let home = home_of_it c p was empty there valid log go f in
        let legal = all_stand c.system log go.0 in
        marked_ran c.system log p valid legal (ap is_some home.found) s.silent s.between s.before (held_there c p (Runs s.between) empty runs_there valid log go f) s.runs
        (marked_now c p (Runs s.between) empty runs_there valid log go f)

    -- and was not due, so that it keeps the limits of the log
    keeps : keeps_limits c.system log p (state_of s.now) ≡ true
    keeps =
        let unended = ap is_some (home_of_it c p was empty there valid log go f).found in
        let legal = all_stand c.system log go.0 in
        let marked = runs_marked c.system log p s.before valid reached_before legal unended (carried c.system log p s.before valid reached_before legal unended marked_before) in
        sent_keeps c.system log p s.before e (state_of s.now) marked (or_parts (is_due_by s.before (c.system).syncreads (c.system).syncsteps) (can_take (state_of s.before)) s.undue).0 s.sends

    may_follow : SentMayStand c.system log (entry_of c.system log (post_told c.number p at e))
    may_follow = record {
      stands = record {
        placed = (refl, refl, go.1);
        by_right =
            right_of_post (placement c.system log) c.number p at e tells
            (home_by (placement c.system log) c.number p (home_lives c.system log p c.number valid go.0 go.1 (home_of_it c p was empty there valid log go f)) (home_of_it c p was empty there valid log go f));
        applies = sent_applies c.system log (entry_of c.system log (post_told c.number p at e)) p at e (state_of s.now) emission_is tells;
        kind = kind_of_post c.system log c.number p at e (state_of s.now) tells emission_is (λ end. synced_where_none c log f p (none_is (first_unsynced c.family p) (childless end)));
      };
      of_kind = sent_of p at e;
      limits = told_keeps c.system log p at e (state_of s.now) emission_is (told_of p at e) tells keeps;
      new_page = changed_none c.system log p at e;
      pages = waits_of_post c.system log p at c.number e tells (f.pages p was there (ap (λ (h : Held). is_some (process_in h)) s.old_is));
    }

    -- it is marked as the log says, and also with the post in it
    sent_alone : MarkedIfThere CarriesMarks c.system log p (unended_process (Runs s.now))
    sent_alone =
        let home = home_of_it c p was empty there valid log go f in
        let legal = all_stand c.system log go.0 in
        marked_sends c.system log p valid legal (ap is_some home.found) s.before s.now e s.sends s.touches marked_before

    -- the others are held as before, since the post moves none of them
    others : (q : Pid) (h : Held) → same_pid q p ≡ false → IsHeldAs c.system log c.queue q h → IsHeldAs c.system log (post ∷ []) q h
    others q (Runs r) other as_before =
        ap (λ (x : Post). state_now c.system log (x ∷ []) q (r.small).steps) post_is ∙ ap (state_by c.system log q (r.small).steps) (moves_no_other p q at c.number e tells other)
        ∙ sym (ap (λ ps. state_now c.system log ps q (r.small).steps) empty) ∙ as_before
    others q (Rolls r counts births) other as_before = (ap (λ (x : Post). move_of q (x ∷ [])) post_is ∙ moves_no_other p q at c.number e tells other, as_before.1)
    others q (Waits waiting) other as_before = (
      ap (λ (x : Post). move_of q (x ∷ [])) post_is ∙ moves_no_other p q at c.number e tells other,
      so_alike c.system log q (is_fetch_queued q c.queue) (is_fetch_queued q (post ∷ [])) waiting (λ i. ap (λ ps. is_fetch_queued q ps i) empty ∙ sym (ap (λ (x : Post). is_fetch_queued q (x ∷ []) i) post_is ∙ fetches_none p q at c.number e i)) as_before.1,
    )

    may_post : SentMayStand c.system log (entry_of c.system log post)
    may_post = subst (λ (q : Post). SentMayStand c.system log (entry_of c.system log q)) (sym post_is) may_follow

    lone_post : is_lone post.what ≡ true
    lone_post = ap (λ (q : Post). is_lone q.what) post_is ∙ lone_of p at e

    held_sent : IsHeldAs c.system log (post ∷ []) p (Runs s.now)
    held_sent =
        ap (λ (q : Post). state_now c.system log (q ∷ []) p at) post_is ∙ ap (state_by c.system log p at) (moves_of p at c.number e tells)
        ∙ items_of_post c.system log p at e (state_of s.now) tells emission_is

    sent_marked : MarkedIfThere CarriesMarks c.system (with_queue c.system log (post ∷ [])) p (unended_process (Runs s.now))
    sent_marked =
        let home = home_of_it c p was empty there valid log go f in
        marked_queued c.system log p valid (all_stand c.system log go.0) (ap is_some home.found) (One post) (Runs s.now) lone_post
        (queue_tells c.system log c.number (One post) (ap (λ b. b && true) posted_own) (may_post, tt)) held_sent sent_alone

    others_marked : (q : Pid) (h : Held) → same_pid q p ≡ false → held_at c q ≡ Some h → MarkedIfThere CarriesMarks c.system (with_queue c.system log c.queue) q (unended_process h)
        → MarkedIfThere CarriesMarks c.system (with_queue c.system log (post ∷ [])) q (unended_process h)
    others_marked q h other at_it = marks_queued c log post valid empty go f lone_post posted_own may_post q h at_it (others q h other ((f.processes).held q h at_it))

  pub posted_goes_on : is_system c.system ≡ true → (c.number).0 < (c.system).clusters → GoesOn c (posted_view c (with_changed p (Runs s.now) c.here) post)
  posted_goes_on valid has log go f = record {
    log = record { cursor = (f.log).cursor; places = (f.log).places };
    processes = record {
      held = held_beside c log p (Runs s.now) (post ∷ []) f (held_sent valid has log go f) (others valid has log go f);
      each_once = ap rising (pids_changed p (Runs s.now) c.here) ∙ (f.processes).each_once;
    };
    queue = record {
      own = ap (λ b. b && true) posted_own;
      legal = legal_post;
    };
    queued = inl (record { queued = One post; posts = refl; together = lone_post valid has log go f });
    steps = record { counted = λ kept. more_counted (least_steps log log c.number + cond c.tried 1 0) c.steps ((f.steps).counted kept) };
    limits = limits_beside c p (Runs s.now) f.limits (s.within (f.limits p (Runs s.between) runs_there));
    pages = pages_beside c log p (Runs s.now) f.pages (λ some. f.pages p was there (ap (λ (h : Held). is_some (process_in h)) s.old_is));
    marks = marks_beside c log p (Runs s.now) (post ∷ []) f (sent_marked valid has log go f) (others_marked valid has log go f);
    records = f.records;
    family = f.family;
    owed = f.owed;
    backups = backups_beside c log p (Runs s.now) f.backups (λ begun. f.backups p was there (acts was (ap (λ (h : Held). is_some (process_in h)) s.old_is)));
    forks = forks_changed c.family p (Runs s.between) (Runs s.now) c.here runs_there (run_forks s.between s.now) f.forks;
    accounts = accounts_queued c.system log c (posted_view c (with_changed p (Runs s.now) c.here) post) post refl refl empty refl no_page f.accounts;
    disk = f.disk;
  }
    where
      legal_post : IsQueueLegal SentMayStand c.system log (post ∷ [])
      legal_post = (may_post valid has log go f, tt)

      no_page : is_page_is_entry post.what ≡ false
      no_page = ap (λ (q : Post). is_page_is_entry q.what) post_is ∙ no_page_of p at e

pub posted_work : (c : ClusterView) (p : Pid) (made : ℕ) (mid : List (Pid × Held)) (was : Held) (sending : Sending) (new : Held) (s : Sends (limits_of c.system) 64 made was sending new) (post : Post) → post ≡ post_told c.number p ((s.now).small).steps sending.emission → sending.pid ≡ p → OwesNothing c → is_resting c ≡ false
    → RollsAgain p made c.here mid → held_of mid p ≡ Some was → EndsChildless (is_none (first_unsynced c.family p)) sending.emission → WorkIs c Queued (posted_view c (with_changed p (Runs s.now) mid) post)
posted_work c p made mid was sending new s post post_is named nothing busy again there childless =
    let one : Sending = record { pid = p; at = ((s.now).small).steps; emission = sending.emission } in
    let same : sending ≡ one = λ i. record { pid = named i; at = s.at_is i; emission = sending.emission } in
    inr (inr (inr (
      nothing,
      busy,
      inl (record {
        pid = p;
        made = made;
        mid = mid;
        again = again;
        was = was;
        now = s.now;
        emission = sending.emission;
        there = there;
        sends = subst (λ (x : Held). Sends (limits_of c.system) 64 made was one x) s.new_is (subst (λ (x : Sending). Sends (limits_of c.system) 64 made was x new) same s);
        childless = childless;
        rest = λ i. record c { here = with_changed p (Runs s.now) mid; queue = post_is i ∷ []; steps = next_count c.steps };
      }),
    )))
