-- The post that hands on a family is queued, and falls at any other entry.
use Rattle.std.proofs.Common.{◌≡◌, ℕ, ◌+◌, ◌≤◌, refl, sym, ◌∙◌, ap, subst, List, [], ◌∷◌, ◌++◌, true, false, cond, ◌&&◌, ◌||◌, eq-eqb, Some, None, inl, inr}
use Rattle.t32_base.specs.declared.process.Pid.{Pid}
use Rattle.t32_base.specs.declared.process.ClusterNo.{ClusterNo}
use Rattle.t32_base.specs.declared.letter.BackRec.{BackRec}
use Rattle.sys_text.specs.declared.system.System.{System}
use Rattle.sys_text.specs.Valid.{is_system}
use Rattle.bus_msg.specs.declared.entry.What.{What}
use Rattle.bus_msg.specs.declared.entry.What.TheVariants.{Rebackup}
use Rattle.bus_msg.specs.declared.entry.Entry.{Entry}
use Rattle.bus_msg.specs.declared.entry.Post.{Post}
use Rattle.bus_msg.specs.Places.{Places}
use Rattle.cert_sched.specs.Appended.{entry_of}
use Rattle.cert_sched.specs.Losses.{capped, is_from, is_page_is_entry, least_calls, least_steps}
use Rattle.cert_sched.specs.Moved.{is_fetch}
use Rattle.standing_backups.specs.Standing.{HandsOn, IsNextStanding}
use Rattle.cluster_core.specs.declared.worked.Worked.TheVariants.{Queued}
use Rattle.cluster_core.specs.Calls.{GoesOn, WorkIs}
use Rattle.cluster_core.specs.Follows.{Follows}
use Rattle.cluster_core.specs.HandingOn.{HandsOver}
use Rattle.cluster_core.specs.Holds.{CarriesMarks, IsHeldAs, MarkedIfThere, is_fetch_queued, unended_process}
use Rattle.cluster_core.specs.Queue.{Nothing, falls, is_rebackup, left_queued, move_of, with_queue}
use Rattle.cluster_core.specs.Sent.{is_sent}
use Rattle.cluster_core.specs.View.{ClusterView, disk_calls, held_at, next_count}
use Rattle.residents.specs.Held.{Held}
use Rattle.cluster_core.proofs.absorbing.Served.{accounts_queued}
use Rattle.cluster_core.proofs.handing.Posts.{next_may}
use Rattle.cluster_core.proofs.here.Beside.{FollowsBeside, all_of, any_of}
use Rattle.cluster_core.proofs.syncs.Batching.{held_alike, unqueued}
use Rattle.cluster_core.proofs.working.Working.{more_counted}

-- ---- a post that is the new backup of a family that was moved

module _ (post : Post) (to : ClusterNo) (recs : List BackRec) (standing : post.what ≡ Rebackup to false recs) where
  -- it tells of no step and asks for no page
  moves_none : (q : Pid) → move_of q (post ∷ []) ≡ None
  moves_none q = ap (λ w. move_of q (record { by = post.by; what = w } ∷ [])) standing

  asks_none : (q : Pid) (n : ℕ) → is_fetch_queued q (post ∷ []) n ≡ false
  asks_none q n = ap (λ w. is_fetch q n w || false) standing

  -- and is passed over where the queue is taken as sent
  queue_same : (system : System) (log : List Entry) → with_queue system log (post ∷ []) ≡ log
  queue_same system log = ap (λ b. cond b log (log ++ entry_of system log post ∷ [])) (ap is_rebackup standing)

-- ---- it is queued

abbrev pub handed_view : ClusterView → Post → ClusterView
handed_view c post = record c { queue = post ∷ []; steps = next_count c.steps }

module _ (c : ClusterView) (post : Post) (next : IsNextStanding c.number c.places c.family c.here c.owed (Some post)) where
  abbrev pub hands : HandsOn c.number c.places c.family c.here next.0 post
  hands = next.2

  standing : post.what ≡ Rebackup hands.to false hands.recs
  standing = ap (λ (x : Post). x.what) hands.post_is

  pub handed_own : (is_from c.number post.by && true) ≡ true
  handed_own = ap (λ (x : Post). is_from c.number x.by && true) hands.post_is ∙ ap (λ b. b && true) (eq-eqb (c.number).0 (c.number).0 refl)

  pub handed_sent : (is_sent post.what && true) ≡ true
  handed_sent = ap (λ w. is_sent w && true) standing

  pub handed_goes_on : is_system c.system ≡ true → c.queue ≡ [] → GoesOn c (handed_view c post)
  handed_goes_on valid empty log go f = record {
    log = record { cursor = (f.log).cursor; places = (f.log).places };
    processes = record { held = held; each_once = (f.processes).each_once };
    queue = record { own = handed_own; legal = (next_may c log valid go f post next, tt) };
    queued = inr (inr (inr (inl (record { post = post; posts = refl; to = hands.to; recs = hands.recs; standing = standing }))));
    steps = record { counted = λ kept. more_counted (least_steps log log c.number + cond c.tried 1 0) c.steps ((f.steps).counted kept) };
    limits = f.limits;
    pages = f.pages;
    marks = marks;
    records = f.records;
    family = f.family;
    owed = f.owed;
    backups = f.backups;
    forks = f.forks;
    accounts = accounts_queued c.system log c (handed_view c post) post refl refl empty refl (ap is_page_is_entry standing) f.accounts;
    disk = f.disk;
  }
    where
      held : (q : Pid) (h : Held) → held_at c q ≡ Some h → IsHeldAs c.system log (post ∷ []) q h
      held q h there =
          held_alike c.system log [] (post ∷ []) q h refl (moves_none post hands.to hands.recs standing q) (λ i. sym (asks_none post hands.to hands.recs standing q i))
          (subst (λ ps. IsHeldAs c.system log ps q h) empty ((f.processes).held q h there))

      marks : (q : Pid) (h : Held) → held_at c q ≡ Some h → MarkedIfThere CarriesMarks c.system (with_queue c.system log (post ∷ [])) q (unended_process h)
      marks q h there =
          subst (λ l. MarkedIfThere CarriesMarks c.system l q (unended_process h)) (ap (with_queue c.system log) empty ∙ sym (queue_same post hands.to hands.recs standing c.system log)) (f.marks q h there)

  pub handed_work : WorkIs c Queued (handed_view c post)
  handed_work = inl (record { post = post; next = next; rest = refl })

-- ---- it falls

-- at any entry it is there no more
pub hands_left : (before : Places) (w : What) (c : ClusterView) (h : HandsOver c) → left_queued before w c.queue ≡ []
hands_left before w c h = ap (left_queued before w) h.posts ∙ ap (λ (x : What). cond (falls before w x) [] (h.post ∷ [])) h.standing

-- without it the cluster follows the log as well
pub without_standing : (system : System) (log : List Entry) (c : ClusterView) → HandsOver c → Follows system log c → FollowsBeside all_of system log (unqueued c)
without_standing system log c h f = record {
  log = record { cursor = (f.log).cursor; places = (f.log).places };
  processes = record { held = λ q x there. any_of all_of system log [] q x (held q x there); each_once = (f.processes).each_once };
  queue = record { own = refl; legal = tt };
  queued = record { queued = Nothing; posts = refl; together = tt };
  steps = record { counted = (f.steps).counted };
  limits = f.limits;
  pages = f.pages;
  marks = λ q x there all. subst (λ l. MarkedIfThere CarriesMarks system l q (unended_process x)) queue_is (f.marks q x there);
  records = f.records;
  family = f.family;
  owed = f.owed;
  backups = f.backups;
  forks = f.forks;
  accounts = record {
    keeps = (f.accounts).keeps;
    there = (f.accounts).there;
    calls = λ kept server. subst (λ l. capped (least_calls system log l c.number) ≤ disk_calls c) queue_is ((f.accounts).calls kept server);
  };
  disk = f.disk;
}
  where
    queue_is : with_queue system log c.queue ≡ log
    queue_is = ap (with_queue system log) h.posts ∙ queue_same h.post h.to h.recs h.standing system log

    held : (q : Pid) (x : Held) → held_at c q ≡ Some x → IsHeldAs system log [] q x
    held q x there =
        held_alike system log (h.post ∷ []) [] q x (moves_none h.post h.to h.recs h.standing q) refl (λ i. asks_none h.post h.to h.recs h.standing q i)
        (subst (λ ps. IsHeldAs system log ps q x) h.posts ((f.processes).held q x there))
