-- What a cluster knows of the placement it goes on to know, whichever entry comes to it.
use Rattle.std.proofs.Common.{◌≡◌, ℕ, refl, sym, ◌∙◌, ap, subst, List, [], ◌∷◌, ◌++◌, map, Bool, true, false, cond, not, ◌&&◌, ◌||◌, Option, Some, None, is_some, inl, inr, true≢false}
use Rattle.std.specs.Prelude.{filter, find, slice_get, ⊤}
use Rattle.std.specs.Option.{option_map_or}
use Rattle.t32_base.specs.declared.process.Pid.{Pid}
use Rattle.t32_base.specs.declared.process.ClusterNo.{ClusterNo}
use Rattle.t32_base.specs.declared.letter.BackRec.{BackRec}
use Rattle.sys_text.specs.declared.system.System.{System}
use Rattle.bus_msg.specs.declared.entry.What.{What}
use Rattle.bus_msg.specs.declared.entry.What.TheVariants.{Birth, Exit, PageIs, Sync, Crash, Return, Rebackup}
use Rattle.bus_msg.specs.declared.entry.Post.{Post}
use Rattle.bus_msg.specs.declared.placed.Placed.{Placed}
use Rattle.bus_msg.specs.Places.{Places, is_cluster, is_moved_by, placed_at, same_cluster, same_pid, unended_at}
use Rattle.bus_msg.specs.PlacedAfter.{after_exit, after_loss, after_sync, changed_at, child_of, lost_cluster, moved_to, placed_after, raised_serial, returned_cluster, with_birth}
use Rattle.bus_msg.specs.NewBackup.{next_backup, next_backup_at}
use Rattle.plain_kernel.specs.Maps.{pid_of}
use Rattle.cert_sched.specs.Record.{is_root}
use Rattle.cert_sched.specs.Told.{cluster_lost}
use Rattle.cert_sched.proofs.UnendedLaws.{loss_keeps}
use Rattle.crash_notice.specs.Splitting.{is_moved_here, moves_here, stays}
use Rattle.cluster_core.specs.Hearing.{KnowsEach, KnowsPlaced, KnowsPlaces, concerns, may_miss}
use Rattle.cluster_core.specs.Owed.{begins_wait, owed_after, pids_waiting, to_back, with_pids}
use Rattle.cluster_core.specs.Queue.{falls, is_moved_from, is_rebackup, left_queued}
use Rattle.cluster_core.specs.Recovered.{left_by, moved_by}
use Rattle.cluster_core.proofs.awaiting.Pids.{waiting_more}
use Rattle.cluster_core.proofs.heard.Unheard.{is_elsewhere}

-- ---- one process

-- a change that goes by all but the mark, and leaves a mark that may be missed to be missed
record Goes (system : System) (k : ClusterNo) (f : Placed → Placed) : Type 0 where
  pub marks : (q : Placed) → f (record q { synced = false }) ≡ record (f q) { synced = false }
  pub misses : (q : Placed) → may_miss system k q ≡ true → may_miss system k (f q) ≡ true

goes_each : (system : System) (k : ClusterNo) (f : Placed → Placed) → Goes system k f → (known qs : List Placed) → KnowsEach system k known qs → KnowsEach system k (map f known) (map f qs)
goes_each system k f g [] [] knows = tt
goes_each system k f g [] (q ∷ qs) knows = absurd knows
goes_each system k f g (p ∷ known) [] knows = absurd knows
goes_each system k f g (p ∷ known) (q ∷ qs) knows = (one knows.0, goes_each system k f g known qs knows.1)
  where
    one : KnowsPlaced system k p q → KnowsPlaced system k (f p) (f q)
    one (inl same) = inl (ap f same)
    one (inr m) = inr (g.misses q m.0, ap f m.1 ∙ g.marks q)

exit_goes : (system : System) (k : ClusterNo) (p : Pid) → Goes system k (after_exit p)
exit_goes system k p = record { marks = λ q. by_test q (same_pid q.pid p); misses = λ q miss. by_miss q (same_pid q.pid p) miss }
  where
    by_test : (q : Placed) (b : Bool) → cond b (record q { ended = true; synced = false }) (record q { synced = false }) ≡ record (cond b (record q { ended = true }) q) { synced = false }
    by_test q true = refl
    by_test q false = refl

    by_miss : (q : Placed) (b : Bool) → may_miss system k q ≡ true → may_miss system k (cond b (record q { ended = true }) q) ≡ true
    by_miss q true miss = miss
    by_miss q false miss = miss

-- the mark is set on both sides
sync_knows : (system : System) (k : ClusterNo) (p : Pid) (known qs : List Placed) → KnowsEach system k known qs → KnowsEach system k (map (after_sync p) known) (map (after_sync p) qs)
sync_knows system k p [] [] knows = tt
sync_knows system k p [] (q ∷ qs) knows = absurd knows
sync_knows system k p (r ∷ known) [] knows = absurd knows
sync_knows system k p (r ∷ known) (q ∷ qs) knows = (one knows.0, sync_knows system k p known qs knows.1)
  where
    missed : (b : Bool) → may_miss system k q ≡ true → KnowsPlaced system k (cond b (record q { synced = true }) (record q { synced = false })) (cond b (record q { synced = true }) q)
    missed true miss = inl refl
    missed false miss = inr (miss, refl)

    one : KnowsPlaced system k r q → KnowsPlaced system k (after_sync p r) (after_sync p q)
    one (inl same) = inl (ap (after_sync p) same)
    one (inr m) = subst (λ x. KnowsPlaced system k (after_sync p x) (after_sync p q)) (sym m.1) (missed (same_pid q.pid p) m.0)

-- ---- a loss

loss_elsewhere : (j k : ClusterNo) (q : Placed) → is_elsewhere k q ≡ true → is_elsewhere k (after_loss j q) ≡ true
loss_elsewhere j k q away = by_tests q.ended (same_cluster q.home j) (is_cluster q.backup j)
  where
    both : (x y : Bool) → (x && y) ≡ true → (x ≡ true) × (y ≡ true)
    both true y is = (refl, is)
    both false y is = absurd (true≢false (sym is))

    parts : (not (same_cluster q.home k) ≡ true) × (not (is_cluster q.backup k) ≡ true)
    parts = both (not (same_cluster q.home k)) (not (is_cluster q.backup k)) away

    by_backup : (o : Option ClusterNo) → q.backup ≡ o → is_elsewhere k (moved_to q j o) ≡ true
    by_backup None is = away
    by_backup (Some b) is = λ i. (ap (λ o. not (is_cluster o k)) (sym is) ∙ parts.1) i && true

    by_tests : (b c d : Bool) → is_elsewhere k (cond b q (cond c (moved_to q j q.backup) (cond d (record q { backup = None; lost = Some j }) q))) ≡ true
    by_tests true c d = away
    by_tests false true d = by_backup q.backup refl
    by_tests false false true = λ i. parts.0 i && true
    by_tests false false false = away

loss_goes : (system : System) (j k : ClusterNo) → Goes system k (after_loss j)
loss_goes system j k = record { marks = λ q. by_tests q q.ended (same_cluster q.home j) (is_cluster q.backup j); misses = λ q miss. by_miss q (is_root system q.pid) refl miss }
  where
    moved : (q : Placed) (o : Option ClusterNo) → moved_to (record q { synced = false }) j o ≡ record (moved_to q j o) { synced = false }
    moved q None = refl
    moved q (Some b) = refl

    by_tests : (q : Placed) (b c d : Bool)
        → cond b (record q { synced = false })
        (cond c (moved_to (record q { synced = false }) j q.backup) (cond d (record q { backup = None; lost = Some j; synced = false }) (record q { synced = false })))
        ≡ record (cond b q (cond c (moved_to q j q.backup) (cond d (record q { backup = None; lost = Some j }) q))) { synced = false }
    by_tests q true c d = refl
    by_tests q false true d = moved q q.backup
    by_tests q false false true = refl
    by_tests q false false false = refl

    or_true : (b : Bool) → (b || true) ≡ true
    or_true true = refl
    or_true false = refl

    by_miss : (q : Placed) (b : Bool) → is_root system q.pid ≡ b → (b || is_elsewhere k q) ≡ true → may_miss system k (after_loss j q) ≡ true
    by_miss q true root miss = ap (λ b. b || is_elsewhere k (after_loss j q)) (ap (is_root system) ((loss_keeps j).pid q) ∙ root)
    by_miss q false root miss = ap (λ b. is_root system (after_loss j q).pid || b) (loss_elsewhere j k q miss) ∙ or_true (is_root system (after_loss j q).pid)

-- ---- one that is found

-- what is found under a pid on both sides
abbrev KnowsFound : System → ClusterNo → Option Placed → Option Placed → Type 0
KnowsFound system k None None = ⊤
KnowsFound system k (Some p) (Some q) = KnowsPlaced system k p q
KnowsFound system k None (Some q) = ⊥
KnowsFound system k (Some p) None = ⊥

-- by a test that does not ask for the mark
found_known : (system : System) (k : ClusterNo) (test : Placed → Bool) → ((q : Placed) → test (record q { synced = false }) ≡ test q) → (known qs : List Placed) → KnowsEach system k known qs
    → KnowsFound system k (find test known) (find test qs)
found_known system k test blind [] [] knows = tt
found_known system k test blind [] (q ∷ qs) knows = absurd knows
found_known system k test blind (p ∷ known) [] knows = absurd knows
found_known system k test blind (p ∷ known) (q ∷ qs) knows =
    subst (λ b. KnowsFound system k (cond b (Some p) (find test known)) (find test (q ∷ qs))) (sym (same knows.0)) (by_test (test q) (found_known system k test blind known qs knows.1))
  where
    same : KnowsPlaced system k p q → test p ≡ test q
    same (inl is) = ap test is
    same (inr m) = ap test m.1 ∙ blind q

    by_test : (b : Bool) → KnowsFound system k (find test known) (find test qs) → KnowsFound system k (cond b (Some p) (find test known)) (cond b (Some q) (find test qs))
    by_test true more = knows.0
    by_test false more = more

-- a question that does not ask for the mark has one answer
pub asked_alike : (system : System) (k : ClusterNo) (ask : Placed → Bool) → ((q : Placed) → ask (record q { synced = false }) ≡ ask q) → (o p : Option Placed) → KnowsFound system k o p
    → option_map_or ask o false ≡ option_map_or ask p false
asked_alike system k ask blind None None knows = refl
asked_alike system k ask blind (Some p) (Some q) (inl is) = ap ask is
asked_alike system k ask blind (Some p) (Some q) (inr m) = ap ask m.1 ∙ blind q
asked_alike system k ask blind None (Some q) knows = absurd knows
asked_alike system k ask blind (Some p) None knows = absurd knows

-- so a loss moves the same records here
pub moves_alike : (system : System) (k lost : ClusterNo) (known places : Places) → KnowsPlaces system k known places → (r : BackRec) → moves_here known lost k r ≡ moves_here places lost k r
moves_alike system k lost known places knows r =
    asked_alike system k (is_moved_here lost k) (λ q. refl) (placed_at known r.pid) (placed_at places r.pid)
    (found_known system k (λ (q : Placed). same_pid q.pid r.pid) (λ q. refl) known.placed places.placed knows.placed)

-- and the same births concern it
pub concerns_alike : (system : System) (k : ClusterNo) (known places : Places) → KnowsPlaces system k known places → (b : Pid × Pid) → concerns known k b ≡ concerns places k b
concerns_alike system k known places knows b =
    asked_alike system k (λ (q : Placed). same_cluster q.home k || is_cluster q.backup k) (λ q. refl) (unended_at known b.1) (unended_at places b.1)
    (found_known system k (λ (q : Placed). same_pid q.pid b.1 && not q.ended) (λ q. refl) known.placed places.placed knows.placed)

-- ---- the whole

with_child : (system : System) (k : ClusterNo) (child : Placed) (known qs : List Placed) → KnowsEach system k known qs → KnowsEach system k (known ++ child ∷ []) (qs ++ child ∷ [])
with_child system k child [] [] knows = (inl refl, tt)
with_child system k child [] (q ∷ qs) knows = absurd knows
with_child system k child (p ∷ known) [] knows = absurd knows
with_child system k child (p ∷ known) (q ∷ qs) knows = (knows.0, with_child system k child known qs knows.1)

birth_known : (system : System) (k : ClusterNo) (child : Pid) (known places : Places) (o p : Option Placed) → KnowsPlaces system k known places → KnowsFound system k o p
    → KnowsPlaces system k (with_birth known child o) (with_birth places child p)
birth_known system k child known places None None knows found = knows
birth_known system k child known places None (Some q) knows found = absurd found
birth_known system k child known places (Some r) None knows found = absurd found
birth_known system k child known places (Some r) (Some q) knows found = by_found found
  where
    -- both have the child where the parent is
    born : (home : ClusterNo) (more : Placed)
        → KnowsPlaces system k (record known { clusters = changed_at home.0 raised_serial (slice_get known.clusters home.0) known.clusters; placed = known.placed ++ more ∷ [] })
        (record places { clusters = changed_at home.0 raised_serial (slice_get places.clusters home.0) places.clusters; placed = places.placed ++ more ∷ [] })
    born home more = record {
      clusters = ap (λ cs. changed_at home.0 raised_serial (slice_get cs home.0) cs) knows.clusters;
      pager = knows.pager;
      placed = with_child system k more known.placed places.placed knows.placed;
    }

    by_found : KnowsPlaced system k r q → KnowsPlaces system k (with_birth known child (Some r)) (with_birth places child (Some q))
    by_found (inl same) = subst (λ x. KnowsPlaces system k (with_birth known child (Some x)) (with_birth places child (Some q))) (sym same) (born q.home (child_of q child))
    by_found (inr m) = subst (λ x. KnowsPlaces system k (with_birth known child (Some x)) (with_birth places child (Some q))) (sym m.1) (born q.home (child_of q child))

-- what is known before an entry other than a new backup leads to what is known after it
pub known_after : (system : System) (k : ClusterNo) (known places : Places) (w : What) → is_rebackup w ≡ false → KnowsPlaces system k known places
    → KnowsPlaces system k (placed_after known w) (placed_after places w)
known_after system k known places (Birth parent at child end) other knows =
    birth_known system k child known places (placed_at known parent) (placed_at places parent) knows
    (found_known system k (λ (q : Placed). same_pid q.pid parent) (λ q. refl) known.placed places.placed knows.placed)
known_after system k known places (Exit pid at end) other knows =
    record { clusters = knows.clusters; pager = knows.pager; placed = goes_each system k (after_exit pid) (exit_goes system k pid) known.placed places.placed knows.placed }
known_after system k known places (Sync pid small read took) other knows =
    record { clusters = knows.clusters; pager = knows.pager; placed = sync_knows system k pid known.placed places.placed knows.placed }
known_after system k known places (Crash lost cause) other knows = record {
  clusters = ap (λ cs. changed_at lost.0 lost_cluster (slice_get cs lost.0) cs) knows.clusters;
  pager = knows.pager;
  placed = goes_each system k (after_loss lost) (loss_goes system lost k) known.placed places.placed knows.placed;
}
known_after system k known places (Return j) other knows = record { clusters = ap (λ cs. changed_at j.0 returned_cluster (slice_get cs j.0) cs) knows.clusters; pager = knows.pager; placed = knows.placed }
known_after system k known places (Rebackup to fresh recs) other knows = absurd (true≢false other)
known_after system k known places _ other knows = knows

-- ---- the records that move

filters_alike : (s t : BackRec → Bool) → ((r : BackRec) → s r ≡ t r) → (recs : List BackRec) → filter s recs ≡ filter t recs
filters_alike s t same [] = refl
filters_alike s t same (r ∷ recs) = λ i. cond (same r i) (r ∷ filters_alike s t same recs i) (filters_alike s t same recs i)

pub moved_alike : (system : System) (k : ClusterNo) (known places : Places) (w : What) (recs : List BackRec) → KnowsPlaces system k known places → moved_by known k w recs ≡ moved_by places k w recs
moved_alike system k known places (Crash lost cause) recs knows = filters_alike (moves_here known lost k) (moves_here places lost k) (moves_alike system k lost known places knows) recs
moved_alike system k known places _ recs knows = refl

pub left_alike : (system : System) (k : ClusterNo) (known places : Places) (w : What) (recs : List BackRec) → KnowsPlaces system k known places → left_by known k w recs ≡ left_by places k w recs
left_alike system k known places (Crash lost cause) recs knows = filters_alike (stays known lost k) (stays places lost k) (λ r. ap not (moves_alike system k lost known places knows r)) recs
left_alike system k known places _ recs knows = refl

-- ---- the posts that fall

-- the same posts fall
falls_alike : (system : System) (k : ClusterNo) (known places : Places) (w queued : What) → KnowsPlaces system k known places → falls known w queued ≡ falls places w queued
falls_alike system k known places w (PageIs p index bytes) knows = by_loss (cluster_lost w)
  where
    by_loss : (o : Option ClusterNo) → option_map_or (is_moved_from known p) o false ≡ option_map_or (is_moved_from places p) o false
    by_loss None = refl
    by_loss (Some lost) =
        asked_alike system k (is_moved_by lost) (λ q. refl) (placed_at known p) (placed_at places p) (found_known system k (λ (q : Placed). same_pid q.pid p) (λ q. refl) known.placed places.placed knows.placed)
falls_alike system k known places w (Rebackup to fresh recs) knows = refl
falls_alike system k known places w _ knows = refl

pub queues_alike : (system : System) (k : ClusterNo) (known places : Places) (w : What) (queue : List Post) → KnowsPlaces system k known places → left_queued known w queue ≡ left_queued places w queue
queues_alike system k known places w [] knows = refl
queues_alike system k known places w (post ∷ []) knows = ap (λ b. cond b [] (post ∷ [])) (falls_alike system k known places w post.what knows)
queues_alike system k known places w (post ∷ next ∷ rest) knows = ap (λ ps. post ∷ ps) (queues_alike system k known places w (next ∷ rest) knows)

-- ---- who waits for a new backup

-- the same processes begin to wait
waiting_alike : (system : System) (k lost : ClusterNo) (known qs : List Placed) → KnowsEach system k known qs → pids_waiting lost k known ≡ pids_waiting lost k qs
waiting_alike system k lost [] [] knows = refl
waiting_alike system k lost [] (q ∷ qs) knows = absurd knows
waiting_alike system k lost (p ∷ known) [] knows = absurd knows
waiting_alike system k lost (p ∷ known) (q ∷ qs) knows = waiting_more lost k p known ∙ by_head (waiting_alike system k lost known qs knows.1) knows.0 ∙ sym (waiting_more lost k q qs)
  where
    by_head : pids_waiting lost k known ≡ pids_waiting lost k qs → KnowsPlaced system k p q
        → cond (begins_wait lost k p) ((p.pid).0 ∷ pids_waiting lost k known) (pids_waiting lost k known) ≡ cond (begins_wait lost k q) ((q.pid).0 ∷ pids_waiting lost k qs) (pids_waiting lost k qs)
    by_head rest (inl is) = λ i. cond (begins_wait lost k (is i)) (((is i).pid).0 ∷ rest i) (rest i)
    by_head rest (inr m) = λ i. cond (begins_wait lost k (m.1 i)) (((m.1 i).pid).0 ∷ rest i) (rest i)

-- a process gets the same new backup
next_alike : (system : System) (k : ClusterNo) (known places : Places) → KnowsPlaces system k known places → (p : Pid) → is_some (next_backup_at known p) ≡ is_some (next_backup_at places p)
next_alike system k known places knows p =
    by_found (unended_at known p) (unended_at places p) (found_known system k (λ (q : Placed). same_pid q.pid p && not q.ended) (λ q. refl) known.placed places.placed knows.placed)
  where
    there : (q : Placed) → is_some (next_backup known q) ≡ is_some (next_backup places q)
    there q = ap (λ cs. is_some (next_backup (record places { clusters = cs }) q)) knows.clusters

    by_found : (o r : Option Placed) → KnowsFound system k o r → is_some (option_map_or (next_backup known) o None) ≡ is_some (option_map_or (next_backup places) r None)
    by_found None None found = refl
    by_found (Some q) (Some r) (inl is) = ap (λ q. is_some (next_backup known q)) is ∙ there r
    by_found (Some q) (Some r) (inr m) = ap (λ q. is_some (next_backup known q)) m.1 ∙ there r
    by_found None (Some r) found = absurd found
    by_found (Some q) None found = absurd found

settled_alike : (system : System) (k : ClusterNo) (known places : Places) (owed : List ℕ) → KnowsPlaces system k known places → to_back known owed ≡ to_back places owed
settled_alike system k known places owed knows = ap (λ t. filter t owed) (λ i n. next_alike system k known places knows (pid_of n) i)

-- so the same ones wait after an entry
pub owed_alike : (system : System) (k : ClusterNo) (known places : Places) (w : What) (owed : List ℕ) → is_rebackup w ≡ false → KnowsPlaces system k known places
    → owed_after k known w owed ≡ owed_after k places w owed
owed_alike system k known places (Crash lost cause) owed other knows =
    settled_alike system k (placed_after known (Crash lost cause)) (placed_after places (Crash lost cause)) (with_pids owed (pids_waiting lost k known.placed))
    (known_after system k known places (Crash lost cause) refl knows)
    ∙ ap (λ ks. to_back (placed_after places (Crash lost cause)) (with_pids owed ks)) (waiting_alike system k lost known.placed places.placed knows.placed)
owed_alike system k known places (Exit pid at end) owed other knows =
    settled_alike system k (placed_after known (Exit pid at end)) (placed_after places (Exit pid at end)) owed (known_after system k known places (Exit pid at end) refl knows)
owed_alike system k known places (Rebackup to fresh recs) owed other knows = absurd (true≢false other)
owed_alike system k known places _ owed other knows = refl
