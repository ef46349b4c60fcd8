-- A cluster that follows a log by what goes to it, and sent an entry that does not go to it, follows the log with it.
use Rattle.std.proofs.Common.{◌≡◌, ℕ, ◌+◌, ◌≤◌, refl, sym, ◌∙◌, ap, subst, arith, List, [], ◌∷◌, ◌++◌, length, Bool, true, false, cond, not, ◌&&◌, ◌||◌, eqb-true, Some, inr, true≢false, length-append}
use Rattle.std.specs.Prelude.{count_by, drop, filter, option_map, slice_get}
use Rattle.std.specs.List.{list_all, list_any}
use Rattle.std.specs.Option.{option_map_or}
use Rattle.std.proofs.lemmas.List.Folds.{list_any-append}
use Rattle.t32_base.specs.declared.process.Pid.{Pid}
use Rattle.t32_base.specs.declared.process.ClusterNo.{ClusterNo}
use Rattle.sys_text.specs.Valid.{is_system}
use Rattle.bus_msg.specs.declared.entry.What.{What}
use Rattle.bus_msg.specs.declared.entry.What.TheVariants.{Sync, PageIs, Crash, Return, Rebackup}
use Rattle.bus_msg.specs.declared.entry.Post.{Post}
use Rattle.bus_msg.specs.declared.entry.Entry.{Entry}
use Rattle.bus_msg.specs.Places.{ClusterPlace, Places, lives_in, same_cluster, same_pid, servers_in}
use Rattle.bus_msg.specs.PlacedAfter.{placed_after, what}
use Rattle.bus_msg.specs.Route.{route}
use Rattle.cert_sched.specs.Appended.{entry_of}
use Rattle.cert_sched.specs.Legal.{MayStand}
use Rattle.cluster_core.specs.Sent.{SentMayStand, is_sent}
use Rattle.cert_sched.specs.Losses.{capped, is_by_cluster, is_from, least_steps}
use Rattle.cert_sched.specs.Schedule.{placement}
use Rattle.log_laws.specs.births.Unsynced.{unsynced_births}
use Rattle.log_laws.proofs.births.OtherEntries.{synced_goes}
use Rattle.backup_records.specs.Records.{are_rising, records_after}
use Rattle.cluster_core.specs.Absorbing.{goes_to}
use Rattle.cluster_core.specs.Calls.{ReadyFor, with_entry, here_after}
use Rattle.cluster_core.specs.Follows.{Follows, IsOpen, StandsBetween}
use Rattle.cluster_core.specs.Hearing.{FollowsHeard, KnowsPlaces, after_head_heard, after_sent_heard, concerns, heard_in}
use Rattle.cluster_core.specs.Queue.{IsQueueLegal, is_rebackup, are_plain}
use Rattle.cluster_core.specs.Recovered.{with_all_waiting}
use Rattle.cluster_core.specs.View.{ClusterView, after_head, after_sent, head_of, with_server}
use Rattle.residents.specs.Held.{Held, held_of}
use Rattle.cluster_core.proofs.absorbing.Absorbed.{follows_entry}
use Rattle.cluster_core.proofs.absorbing.Fallen.{plain_left, sent_loses_none}
use Rattle.cluster_core.proofs.absorbing.Arriving.{comes_here, goes_elsewhere}
use Rattle.cluster_core.proofs.absorbing.Counted.{capped_less, count_by-snoc, lost_before}
use Rattle.cluster_core.proofs.heard.Heard.{any_less, sync_keeps_concerns, without_child}
use Rattle.residents.proofs.Changing.{pid_same}
use Rattle.cluster_core.proofs.losses.Homes.{HomeHere}
use Rattle.cluster_core.proofs.absorbing.KnownPlaces.{known_after}
use Rattle.cluster_core.proofs.absorbing.Noting.{noted_next}
use Rattle.cluster_core.proofs.heard.PassedOver.{all_left, at_later, births_left, of_kind, dropped, elsewhere, home_of_it, none_come, none_moved, of_it, own_upto, same_clusters, same_pager, serves, without_last, owed_stays}
use Rattle.cluster_core.proofs.heard.Shadow.{alike, queued_back, shadow}
use Rattle.cluster_core.proofs.heard.Unheard.{page_goes}
use Rattle.cert_sched.specs.Told.{cluster_lost}
use Rattle.std.proofs.lemmas.Bool.{and_parts, not-true}

-- what is sent changes nothing at once that is no new backup
head_stays : (c : ClusterView) (w : What) → is_sent w ≡ true → is_rebackup w ≡ false → after_head c w ≡ c
head_stays c (Crash lost cause) unlost plain = absurd (true≢false (sym unlost))
head_stays c (Return j) unlost plain = absurd (true≢false (sym unlost))
head_stays c (Rebackup to fresh recs) unlost plain = absurd (true≢false plain)
head_stays c _ unlost plain = refl

module _ (c : ClusterView) (log : List Entry) (e : Entry) (valid : is_system c.system ≡ true) (now : IsOpen MayStand c.system log) (next : IsOpen MayStand c.system (log ++ e ∷ []))
    (away : goes_to e.dests c.number ≡ false) (f : FollowsHeard c.system log c) (tried : c.tried ≡ true) (post : Post) (rest : List Post) (queue : c.queue ≡ post ∷ rest)
    (whole : entry_of c.system log post ≡ e) where
  abbrev k : ClusterNo
  k = c.number

  abbrev places : Places
  places = placement c.system log

  abbrev later : List Entry
  later = log ++ e ∷ []

  said : what e ≡ post.what
  said = ap what (sym whole)

  unlost : is_sent post.what ≡ true
  unlost = (subst (IsQueueLegal SentMayStand c.system log) queue (f.queue).legal).0.of_kind

  -- no new backup is queued
  plain : (not (is_rebackup post.what) ≡ true) × (are_plain rest ≡ true)
  plain = and_parts (not (is_rebackup post.what)) (are_plain rest) (subst (λ ps. are_plain ps ≡ true) queue f.plain)

  plain_head : is_rebackup post.what ≡ false
  plain_head = not-true (is_rebackup post.what) plain.0

  own : is_by_cluster k e ≡ true
  own = ap (is_by_cluster k) (sym whole) ∙ first (is_from k post.by) _ (subst (λ ps. list_all (λ (post : Post). is_from k post.by) ps ≡ true) queue (f.queue).own)
    where
      first : (x y : Bool) → (x && y) ≡ true → x ≡ true
      first true y is = refl
      first false y is = absurd (true≢false (sym is))

  -- the cluster without its head
  abbrev left : ClusterView
  left = record c { queue = rest; tried = false }

  between : StandsBetween Follows c.system log e (shadow log left)
  between = record {
    before = shadow log c;
    followed = of_kind c log e valid now next away f;
    head = ap (λ ps. option_map (entry_of c.system log) (head_of ps)) queue ∙ ap Some whole;
    tried = tried;
    sent = sym (ap (after_sent (shadow log c)) queue ∙ ap (λ (d : ClusterView). record d { queue = rest; tried = false }) (head_stays (shadow log c) post.what unlost plain_head));
  }

  ready : ReadyFor e (shadow log left)
  ready = record { log = log; open_log = now; open_next = next; ready = inr between }

  here_stays : here_after (what e) c.here ≡ c.here
  here_stays =
      of_it c log e valid now next away f (λ w. what e ≡ w → here_after w c.here ≡ c.here)
      (λ at letter is. ap (λ w. here_after w c.here) (sym is) ∙ goes_elsewhere k e at letter c.here is (comes_here (shadow log left) e valid ready) away)
      (λ pid at index bytes is. refl) (λ pid small read took is. refl) (λ pid index is. refl)
      (λ pid index bytes is. none_come pid index bytes c.here (λ p h there. apart_from pid index bytes is p h there (same_pid p pid) refl)) refl
    where
      apart_from : (pid : Pid) (index : ℕ) (bytes : List ℕ) → what e ≡ PageIs pid index bytes → (p : Pid) (h : Held) → held_of c.here p ≡ Some h → (b : Bool) → same_pid p pid ≡ b → b ≡ false
      apart_from pid index bytes is p h there true same =
          let home : HomeHere places pid k = subst (λ q. HomeHere places q k) (pid_same p pid (eqb-true p.0 pid.0 same)) (home_of_it c log e valid now next away f p h there) in
          absurd (true≢false (sym (page_goes places k pid index bytes f.lives home) ∙ ap (λ w. goes_to (route places w) k) (sym is) ∙ elsewhere c log e valid now next away f))
      apart_from pid index bytes is p h there false same = refl

  recs_stay : records_after c.number (what e) c.records ≡ c.records
  recs_stay = noted_next (shadow log left) e valid ready away

  abbrev taken : ClusterView
  taken = with_server c.server (with_entry (shadow log left) e)

  goes_on : Follows c.system later taken
  goes_on =
      follows_entry (shadow log left) e c.server valid (own_upto c.cursor (length log) c.here (f.log).within f.own) (ap are_rising (none_moved c log e valid now next away f _))
      (serves c log e valid now next away f c.server refl) (plain_left places (what e) rest (ap (λ (w : What). cluster_lost w) said ∙ sent_loses_none post.what unlost) plain.1) log now next (inr between)

  as_left : taken ≡ alike left taken.cursor taken.places taken.family taken.steps
  as_left = λ i. record left {
    cursor = taken.cursor;
    places = taken.places;
    here = ((λ j. with_all_waiting (none_moved c log e valid now next away f (records_after c.number (what e) c.records) j) (here_after (what e) c.here)) ∙ here_stays) i;
    records = (all_left c log e valid now next away f (records_after c.number (what e) c.records) ∙ recs_stay) i;
    family = taken.family;
    owed = owed_stays c log e valid now next away f c.owed i;
    steps = taken.steps;
  }

  still : Follows c.system later (alike left taken.cursor taken.places taken.family taken.steps)
  still = subst (Follows c.system later) as_left goes_on

  -- ---- what the cluster knows of it

  abbrev knows : ClusterView
  knows = record (after_head_heard c (what e)) { queue = rest; tried = false }

  -- it differs in the placement and the births alone
  as_known : knows ≡ record left { places = knows.places; family = knows.family }
  as_known = of_it c log e valid now next away f
      (λ w. (record (after_head_heard c w) { queue = rest; tried = false }) ≡ record left { places = (after_head_heard c w).places; family = (after_head_heard c w).family })
      (λ at letter. refl) (λ pid at index bytes. refl) (λ pid small read took. refl) (λ pid index. refl) (λ pid index bytes. refl)

  known_places : KnowsPlaces c.system k knows.places (placement c.system later)
  known_places =
      subst (KnowsPlaces c.system k knows.places) (sym (at_later c log e valid now next away f))
      (of_it c log e valid now next away f (λ w. KnowsPlaces c.system k (after_head_heard c w).places (placed_after places w)) (λ at letter. (f.log).places) (λ pid at index bytes. (f.log).places)
      (λ pid small read took. known_after c.system k c.places places (Sync pid small read took) refl (f.log).places) (λ pid index. (f.log).places) (λ pid index bytes. (f.log).places))

  known_births : knows.family ≡ filter (concerns (placement c.system later) k) (unsynced_births c.system later)
  known_births =
      of_it c log e valid now next away f (λ w. what e ≡ w → (after_head_heard c w).family ≡ filter (concerns (placement c.system later) k) (unsynced_births c.system later))
      (λ at letter is. f.family ∙ births_left c log e valid now next away f is refl refl) (λ pid at index bytes is. f.family ∙ births_left c log e valid now next away f is refl refl)
      (λ pid small read took is.
      ap (filter (λ (b : Pid × Pid). not (same_pid b.1 pid))) f.family
      ∙ without_child (concerns places k) (concerns (placement c.system later) k) pid (unsynced_births c.system log)
      (λ b apart. ap (λ ps. concerns ps k b) (at_later c log e valid now next away f ∙ ap (placed_after places) is) ∙ sync_keeps_concerns places k pid small read took b)
      ∙ ap (filter (concerns (placement c.system later) k)) (sym (synced_goes c.system log e pid small read took is)))
      (λ pid index is. f.family ∙ births_left c log e valid now next away f is refl refl) (λ pid index bytes is. f.family ∙ births_left c log e valid now next away f is refl refl) refl

  more_steps : least_steps (heard_in k later) later k ≡ least_steps (heard_in k log) log k + 1
  more_steps =
      let one = ap length (without_last (λ (e : Entry). goes_to e.dests k) log e away) in
      let sent : count_by (is_by_cluster k) later ≡ count_by (is_by_cluster k) log + 1 = count_by-snoc (is_by_cluster k) log e ∙ ap (λ b. count_by (is_by_cluster k) log + cond b 1 0) own in
      omega (arith, one, sent)

  follows_known : FollowsHeard c.system later (record left { places = knows.places; family = knows.family })
  follows_known = record {
    lives = ap (λ (p : Places). lives_in p k) (at_later c log e valid now next away f)
        ∙ ap (λ cs. option_map_or (λ (c : ClusterPlace). c.lives) (slice_get cs k.0) false) (same_clusters c log e valid now next away f) ∙ f.lives;
    log = record {
      within = omega (arith, (f.log).within, length-append log (e ∷ []));
      none_left =
          ap (list_any (λ (e : Entry). goes_to e.dests k)) (dropped c.cursor log e (f.log).within) ∙ list_any-append (λ (e : Entry). goes_to e.dests k) (drop c.cursor log) (e ∷ [])
          ∙ (λ i. (f.log).none_left i || (away i || false));
      places = known_places;
    };
    processes = record { held = (still.processes).held; each_once = (still.processes).each_once };
    queue = record { own = (still.queue).own; legal = (still.queue).legal };
    queued = queued_back (record left { places = knows.places; family = knows.family }) later taken.cursor taken.places taken.family taken.steps still.queued;
    plain = plain.1;
    steps = record {
      counted = λ kept.
          let before : capped (least_steps (heard_in k log) log k + 1) ≤ c.steps =
          subst (λ b. capped (least_steps (heard_in k log) log k + cond b 1 0) ≤ c.steps) tried ((f.steps).counted (lost_before log e k kept)) in
          capped_less (least_steps (heard_in k later) later k + 0) (least_steps (heard_in k log) log k + 1) c.steps (omega (arith, more_steps)) before;
    };
    limits = f.limits;
    pages = still.pages;
    marks = still.marks;
    records = still.records;
    family = known_births;
    owed = still.owed;
    backups = still.backups;
    forks = λ parent child q h at beside any. f.forks parent child q h at beside (fewer parent child any);
    accounts = record { keeps = (still.accounts).keeps; there = (still.accounts).there; calls = (still.accounts).calls };
    server = λ some.
        ap (list_any (λ s. same_cluster s k))
        (ap servers_in (at_later c log e valid now next away f)
        ∙ (λ i. filter (λ j. option_map_or (λ (c : ClusterPlace). not c.was_lost) (slice_get (same_clusters c log e valid now next away f i) j.0) false)
        ((same_pager c log e valid now next away f i).0 ∷ (same_pager c log e valid now next away f i).1 ∷ [])))
        ∙ f.server some;
    disk = f.disk;
    own = f.own;
  }
    where
      fewer : (parent child : Pid) → list_any (λ (b : Pid × Pid). same_pid b.0 parent && same_pid b.1 child) knows.family ≡ true
          → list_any (λ (b : Pid × Pid). same_pid b.0 parent && same_pid b.1 child) c.family ≡ true
      fewer parent child = of_it c log e valid now next away f
          (λ w. list_any (λ (b : Pid × Pid). same_pid b.0 parent && same_pid b.1 child) (after_head_heard c w).family ≡ true
          → list_any (λ (b : Pid × Pid). same_pid b.0 parent && same_pid b.1 child) c.family ≡ true)
          (λ at letter any. any) (λ pid at index bytes any. any) (λ pid small read took any. any_less (λ (b : Pid × Pid). same_pid b.0 parent && same_pid b.1 child) (λ (b : Pid
          × Pid). not (same_pid b.1 pid)) c.family any) (λ pid index any. any)
          (λ pid index bytes any. any)

  pub sent_follows : FollowsHeard c.system later (after_sent_heard c c.queue)
  sent_follows =
      subst (FollowsHeard c.system later)
      (sym (ap (after_sent_heard c) queue ∙ ap (λ w. record (after_head_heard c w) { queue = rest; tried = false }) (sym said) ∙ as_known)) follows_known

pub sent_unheard : (c : ClusterView) (log : List Entry) (e : Entry) → is_system c.system ≡ true → IsOpen MayStand c.system log → IsOpen MayStand c.system (log ++ e ∷ [])
    → goes_to e.dests c.number ≡ false → FollowsHeard c.system log c → c.tried ≡ true
    → option_map (entry_of c.system log) (head_of c.queue) ≡ Some e → FollowsHeard c.system (log ++ e ∷ []) (after_sent_heard c c.queue)
sent_unheard c log e valid now next away f tried head = by_queue c.queue refl head
  where
    by_queue : (ps : List Post) → c.queue ≡ ps → option_map (entry_of c.system log) (head_of ps) ≡ Some e → FollowsHeard c.system (log ++ e ∷ []) (after_sent_heard c c.queue)
    by_queue [] is none = cc
    by_queue (post ∷ rest) is at = let whole : entry_of c.system log post ≡ e = cc in sent_follows c log e valid now next away f tried post rest is whole
