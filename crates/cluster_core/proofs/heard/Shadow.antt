-- A cluster that follows a log by what goes to it is one that follows the whole log, but for its cursor, its count of steps, and what it does not know.
use Rattle.std.proofs.Common.{◌≡◌, ℕ, ◌≤◌, refl, sym, ◌∙◌, ap, arith, List, [], ◌∷◌, length, Bool, true, false, ◌&&◌, ◌||◌, eqb-true, inl, inr, true≢false}
use Rattle.std.specs.Prelude.{◌^◌, ◌-◌, filter}
use Rattle.std.specs.List.{list_any}
use Rattle.std.specs.Option.{option_map_or}
use Rattle.t32_base.specs.declared.process.Pid.{Pid}
use Rattle.t32_base.specs.declared.process.ClusterNo.{ClusterNo}
use Rattle.sys_text.specs.Valid.{is_system}
use Rattle.bus_msg.specs.declared.entry.Entry.{Entry}
use Rattle.bus_msg.specs.declared.placed.Placed.{Placed}
use Rattle.bus_msg.specs.Places.{Places, is_cluster, same_cluster, same_pid, unended_at}
use Rattle.cert_sched.specs.Legal.{MayStand}
use Rattle.cert_sched.specs.Legal.{IsLegalBy}
use Rattle.cert_sched.specs.Losses.{capped}
use Rattle.cert_sched.specs.Schedule.{placement}
use Rattle.log_laws.specs.births.Unsynced.{unsynced_births}
use Rattle.log_laws.proofs.births.Filters.{any_kept}
use Rattle.cluster_core.specs.Follows.{Follows, QueuedIn}
use Rattle.cluster_core.specs.Hearing.{FollowsHeard, concerns}
use Rattle.residents.specs.Residents.{pids_in}
use Rattle.cluster_core.specs.View.{ClusterView}
use Rattle.cluster_core.proofs.here.Here.{is_among}
use Rattle.residents.proofs.Changing.{pid_same}
use Rattle.cluster_core.proofs.losses.Homes.{HomeHere, pids_apart, home_here}

-- the cluster with all that it would know if it took in each entry
abbrev pub shadow : List Entry → ClusterView → ClusterView
shadow log c = record c { cursor = length log; places = placement c.system log; family = unsynced_births c.system log; steps = 2 ^ 64 - 1 }

capped_most : (n : ℕ) → capped n ≤ 2 ^ 64 - 1
capped_most n = omega arith

-- ---- the births that concern it

abbrev bears_by : Pid → Pid → Pid × Pid → Bool
bears_by parent child b = same_pid b.0 parent && same_pid b.1 child

-- where each that passes one test passes another, both let through what the one does
any_both : (s t : Pid × Pid → Bool) (bs : List (Pid × Pid)) → ((b : Pid × Pid) → s b ≡ true → t b ≡ true) → list_any (λ (b : Pid × Pid). s b && t b) bs ≡ list_any s bs
any_both s t [] passes = refl
any_both s t (b ∷ bs) passes = λ i. by_test (s b) refl i || any_both s t bs passes i
  where
    by_test : (x : Bool) → s b ≡ x → (x && t b) ≡ x
    by_test true is = passes b is
    by_test false is = refl

-- a birth of a child that is here concerns the cluster
concerns_here : (places : Places) (k : ClusterNo) (parent child : Pid) → HomeHere places child k → (b : Pid × Pid) → bears_by parent child b ≡ true → concerns places k b ≡ true
concerns_here places k parent child home b bears =
    let same : b.1 ≡ child = pid_same b.1 child (eqb-true (b.1).0 child.0 (second (same_pid b.0 parent) (same_pid b.1 child) bears)) in
    ap (λ p. option_map_or (λ (q : Placed). same_cluster q.home k || is_cluster q.backup k) (unended_at places p) false) same
    ∙ ap (λ o. option_map_or (λ (q : Placed). same_cluster q.home k || is_cluster q.backup k) o false) home.found
    ∙ ap (λ x. x || is_cluster (home.placed).backup k) home.home
  where
    second : (x y : Bool) → (x && y) ≡ true → y ≡ true
    second true y is = is
    second false y is = absurd (true≢false (sym is))

born_here : (places : Places) (k : ClusterNo) (parent child : Pid) (births : List (Pid × Pid)) → HomeHere places child k → list_any (bears_by parent child) births ≡ true
    → list_any (bears_by parent child) (filter (concerns places k) births) ≡ true
born_here places k parent child births home any =
    sym (any_kept (bears_by parent child) (concerns places k) births) ∙ any_both (bears_by parent child) (concerns places k) births (concerns_here places k parent child home) ∙ any

-- ---- there and back

pub shadow_queued : (c : ClusterView) (log : List Entry) → QueuedIn c.system log c → QueuedIn c.system log (shadow log c)
shadow_queued c log (inl alone) = inl alone
shadow_queued c log (inr (inl y)) = inr (inl (record {
  pid = y.pid;
  process = y.process;
  read = y.read;
  took = y.took;
  indices = y.indices;
  posts = y.posts;
  there = y.there;
  within = y.within;
  may = y.may;
  unread = y.unread;
  since = y.since;
  unmarked = y.unmarked;
}))
shadow_queued c log (inr (inr (inl b))) = inr (inr (inl (record { pid = b.pid; process = b.process; child = b.child; posts = b.posts; there = b.there; stands = b.stands; undue = b.undue; next = b.next })))
shadow_queued c log (inr (inr (inr (inl h)))) = inr (inr (inr (inl (record { post = h.post; posts = h.posts; to = h.to; recs = h.recs; standing = h.standing }))))
shadow_queued c log (inr (inr (inr (inr y)))) = inr (inr (inr (inr (record {
  pid = y.pid;
  process = y.process;
  to = y.to;
  indices = y.indices;
  posts = y.posts;
  there = y.there;
  owed = y.owed;
  within = y.within;
  may = y.may;
  counts = y.counts;
  unmarked = y.unmarked;
}))))

pub shadow_follows : (c : ClusterView) (log : List Entry) → is_system c.system ≡ true → IsLegalBy MayStand c.system log → FollowsHeard c.system log c → Follows c.system log (shadow log c)
shadow_follows c log valid legal f = record {
  log = record { cursor = refl; places = refl };
  processes = record { held = (f.processes).held; each_once = (f.processes).each_once };
  queue = record { own = (f.queue).own; legal = (f.queue).legal };
  queued = shadow_queued c log f.queued;
  steps = record { counted = λ kept. capped_most _ };
  limits = f.limits;
  pages = f.pages;
  marks = f.marks;
  records = f.records;
  family = refl;
  owed = f.owed;
  backups = f.backups;
  forks = λ parent child q h there beside any.
      let home = home_here (placement c.system log) c.number (pids_in c.here) child (pids_apart c.system log valid legal) (f.processes).each_once (is_among c.here child h beside) in
      f.forks parent child q h there beside (ap (list_any (bears_by parent child)) f.family ∙ born_here (placement c.system log) c.number parent child (unsynced_births c.system log) home any);
  accounts = record { keeps = (f.accounts).keeps; there = (f.accounts).there; calls = (f.accounts).calls };
  disk = f.disk;
}

-- the cluster with another cursor, placement, family and count of steps
abbrev pub alike : ClusterView → ℕ → Places → List (Pid × Pid) → ℕ → ClusterView
alike c cursor places family steps = record c { cursor = cursor; places = places; family = family; steps = steps }

pub queued_back : (c : ClusterView) (log : List Entry) (cursor : ℕ) (places : Places) (family : List (Pid × Pid)) (steps : ℕ) → QueuedIn c.system log (alike c cursor places family steps) → QueuedIn c.system log c
queued_back c log cursor places family steps (inl alone) = inl alone
queued_back c log cursor places family steps (inr (inl y)) = inr (inl (record {
  pid = y.pid;
  process = y.process;
  read = y.read;
  took = y.took;
  indices = y.indices;
  posts = y.posts;
  there = y.there;
  within = y.within;
  may = y.may;
  unread = y.unread;
  since = y.since;
  unmarked = y.unmarked;
}))
queued_back c log cursor places family steps (inr (inr (inl b))) =
    inr (inr (inl (record { pid = b.pid; process = b.process; child = b.child; posts = b.posts; there = b.there; stands = b.stands; undue = b.undue; next = b.next })))
queued_back c log cursor places family steps (inr (inr (inr (inl h)))) = inr (inr (inr (inl (record { post = h.post; posts = h.posts; to = h.to; recs = h.recs; standing = h.standing }))))
queued_back c log cursor places family steps (inr (inr (inr (inr y)))) = inr (inr (inr (inr (record {
  pid = y.pid;
  process = y.process;
  to = y.to;
  indices = y.indices;
  posts = y.posts;
  there = y.there;
  owed = y.owed;
  within = y.within;
  may = y.may;
  counts = y.counts;
  unmarked = y.unmarked;
}))))
