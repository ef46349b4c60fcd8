-- A cluster that follows a log by what goes to it takes in the next entry that does, and follows the log with it.
use Rattle.std.proofs.Common.{◌≡◌, ℕ, suc, ◌+◌, ◌≤◌, refl, sym, ◌∙◌, ap, subst, arith, List, [], ◌∷◌, ◌++◌, length, Bool, true, false, cond, not, ◌&&◌, ◌||◌, eqb, eqb-true, eq-eqb, Option, Some, None, is_some, inl, true≢false, length-append, add-zero, append-nil}
use Rattle.std.specs.Prelude.{count_by, drop, filter, option_map, slice_get}
use Rattle.std.specs.List.{list_any}
use Rattle.std.specs.Option.{option_map_or}
use Rattle.std.proofs.lemmas.List.Elements.{filter-append}
use Rattle.t32_base.specs.declared.process.Pid.{Pid}
use Rattle.t32_base.specs.declared.process.ClusterNo.{ClusterNo}
use Rattle.t32_base.specs.declared.letter.BackRec.{BackRec}
use Rattle.t32_base.specs.Small.{SmallState}
use Rattle.sys_text.specs.Valid.{is_system}
use Rattle.bus_msg.specs.declared.entry.What.{What}
use Rattle.bus_msg.specs.declared.entry.What.TheVariants.{Birth, Exit, Sync, Crash, Return, Rebackup}
use Rattle.bus_msg.specs.declared.entry.Cause.{Cause}
use Rattle.bus_msg.specs.declared.entry.Entry.{Entry}
use Rattle.bus_msg.specs.declared.placed.Placed.{Placed}
use Rattle.bus_msg.specs.Places.{ClusterPlace, Places, is_cluster, is_lost_in, never_lost, same_cluster, same_pid, servers_in, unended_at, placed_at}
use Rattle.bus_msg.specs.PlacedAfter.{after_loss, after_sync, moved_to, placed_after, returned_cluster, what, raised_serial}
use Rattle.cert_sched.specs.Losses.{capped, is_by_cluster, is_crash_of, least_steps}
use Rattle.cert_sched.specs.Schedule.{placement}
use Rattle.cert_sched.proofs.ExitLaws.{unended_exit}
use Rattle.cert_sched.proofs.LogLaws.{IsLegal-last, placement-snoc}
use Rattle.cert_sched.proofs.UnendedLaws.{loss_keeps, sync_keeps, unended_map, unended_open_at}
use Rattle.log_laws.specs.births.Unsynced.{changes_unsynced, unsynced_births}
use Rattle.log_laws.proofs.births.Filters.{and_false, and_true, filter_both, filter_alike, passes_any}
use Rattle.log_laws.proofs.births.OtherEntries.{ended_goes, others_leave, synced_goes}
use Rattle.page_server.specs.Account.{PagerState}
use Rattle.backup_records.specs.Records.{are_rising, records_after}
use Rattle.cluster_core.specs.Absorbing.{goes_to}
use Rattle.cluster_core.specs.Queue.{is_rebackup, are_plain}
use Rattle.cluster_core.specs.Calls.{ReadyFor, absorbed, here_after}
use Rattle.cluster_core.specs.Follows.{Follows, IsOpen}
use Rattle.cluster_core.specs.Hearing.{FollowsHeard, KnowsPlaces, concerns, family_heard, heard_in, with_heard}
use Rattle.cluster_core.specs.Parts.{AllOwn}
use Rattle.cluster_core.specs.Recovered.{left_by, moved_by, with_all_waiting}
use Rattle.cluster_core.specs.Serving.{Serves}
use Rattle.cluster_core.specs.View.{ClusterView, next_count, with_server}
use Rattle.cert_sched.specs.Kinds.{BirthHolds, KindHolds}
use Rattle.cert_sched.specs.Legal.{IsLegalBy, Stands, MayStand}
use Rattle.cert_sched.specs.Rules.{is_by_home, is_by_right}
use Rattle.cert_sched.proofs.BirthClusters.{birth_keeps}
use Rattle.cert_sched.proofs.FamilyLaws.{Families, Member, families, found_born, found_child}
use Rattle.cert_sched.proofs.FreshLaws.{BornRightly, born_rightly}
use Rattle.log_laws.proofs.records.Standing.{all_stand}
use Rattle.birth_notice.specs.Family.{stands_in}
use Rattle.log_laws.proofs.births.NewBirth.{birth_last, stands_in_none}
use Rattle.cluster_core.proofs.absorbing.Absorbed.{absorbs, ready_own}
use Rattle.cluster_core.proofs.absorbing.Counted.{capped_next, count_by-snoc, lost_before}
use Rattle.cluster_core.proofs.losses.FirstServer.{changed_other, lost_other, same_pager}
use Rattle.cluster_core.proofs.absorbing.KnownPlaces.{concerns_alike, known_after, left_alike, moved_alike, owed_alike, queues_alike}
use Rattle.cluster_core.proofs.losses.OwningWaits.{owns_waiting}
use Rattle.cluster_core.proofs.heard.PassedOver.{own_upto}
use Rattle.cluster_core.proofs.heard.Shadow.{alike, queued_back, shadow, shadow_follows}
use Rattle.cluster_core.proofs.absorbing.Fallen.{left_all}
use Rattle.bus_msg.specs.declared.entry.Post.{Post}

-- ---- lists

all_dropped : (log : List Entry) (e : Entry) → drop (length log + 1) (log ++ e ∷ []) ≡ []
all_dropped [] e = refl
all_dropped (x ∷ log) e = let more : length (x ∷ log) + 1 ≡ suc (length log + 1) = omega arith in ap (λ n. drop n (x ∷ log ++ e ∷ [])) more ∙ all_dropped log e

with_last : (t : Entry → Bool) (log : List Entry) (e : Entry) → t e ≡ true → length (filter t (log ++ e ∷ [])) ≡ length (filter t log) + 1
with_last t log e passes = ap length (filter-append t log (e ∷ [])) ∙ length-append (filter t log) (filter t (e ∷ [])) ∙ ap (λ b. length (filter t log) + length (cond b (e ∷ []) [])) passes

pub any_less : (s t : Pid × Pid → Bool) (bs : List (Pid × Pid)) → list_any s (filter t bs) ≡ true → list_any s bs ≡ true
any_less s t [] any = any
any_less s t (b ∷ bs) any = by_test (t b) any (any_less s t bs)
  where
    later : (x : Bool) → (list_any s (filter t bs) ≡ true → list_any s bs ≡ true) → (x || list_any s (filter t bs)) ≡ true → (x || list_any s bs) ≡ true
    later true more any = refl
    later false more any = more any

    or_true : (x : Bool) → (x || true) ≡ true
    or_true true = refl
    or_true false = refl

    by_test : (x : Bool) → list_any s (cond x (b ∷ filter t bs) (filter t bs)) ≡ true → (list_any s (filter t bs) ≡ true → list_any s bs ≡ true) → (s b || list_any s bs) ≡ true
    by_test true any more = later (s b) more any
    by_test false any more = ap (λ x. s b || x) (more any) ∙ or_true (s b)

-- those of another child stay, by tests that agree on them
pub without_child : (s u : Pid × Pid → Bool) (pid : Pid) (bs : List (Pid × Pid)) → ((b : Pid × Pid) → same_pid b.1 pid ≡ false → u b ≡ s b)
    → filter (λ (b : Pid × Pid). not (same_pid b.1 pid)) (filter s bs) ≡ filter u (filter (λ (b : Pid × Pid). not (same_pid b.1 pid)) bs)
without_child s u pid bs same =
    sym (filter_both (λ (b : Pid × Pid). s b && not (same_pid b.1 pid)) s (λ (b : Pid × Pid). not (same_pid b.1 pid)) (λ b. refl) bs)
    ∙ filter_both (λ (b : Pid × Pid). s b && not (same_pid b.1 pid)) (λ (b : Pid × Pid). not (same_pid b.1 pid)) u (λ b. by_child b (same_pid b.1 pid) refl) bs
  where
    by_child : (b : Pid × Pid) (x : Bool) → same_pid b.1 pid ≡ x → (s b && not (same_pid b.1 pid)) ≡ (not (same_pid b.1 pid) && u b)
    by_child b true is = (λ i. s b && not (is i)) ∙ and_false (s b) ∙ (λ i. not (sym is i) && u b)
    by_child b false is = (λ i. s b && not (is i)) ∙ and_true (s b) ∙ sym (same b is) ∙ (λ i. not (sym is i) && u b)

filters_same : (s u : Pid × Pid → Bool) (bs : List (Pid × Pid)) → ((b : Pid × Pid) → s b ≡ u b) → filter s bs ≡ filter u bs
filters_same s u [] same = refl
filters_same s u (b ∷ bs) same = λ i. cond (same b i) (b ∷ filters_same s u bs same i) (filters_same s u bs same i)

-- who is asked for stays where the tests agree on it
any_alike : (t u v : ClusterNo → Bool) (ks : List ClusterNo) → ((j : ClusterNo) → t j ≡ true → u j ≡ v j) → list_any t (filter u ks) ≡ list_any t (filter v ks)
any_alike t u v [] same = refl
any_alike t u v (j ∷ ks) same = by_test (t j) refl (any_alike t u v ks same)
  where
    either : (x : Bool) → list_any t (filter u ks) ≡ list_any t (filter v ks) → list_any t (cond x (j ∷ filter u ks) (filter u ks)) ≡ list_any t (cond x (j ∷ filter v ks) (filter v ks))
    either true more = ap (λ x. t j || x) more
    either false more = more

    none : (w : ClusterNo → Bool) (x : Bool) → t j ≡ false → list_any t (cond x (j ∷ filter w ks) (filter w ks)) ≡ list_any t (filter w ks)
    none w true fails = ap (λ b. b || list_any t (filter w ks)) fails
    none w false fails = refl

    by_test : (x : Bool) → t j ≡ x → list_any t (filter u ks) ≡ list_any t (filter v ks)
        → list_any t (cond (u j) (j ∷ filter u ks) (filter u ks)) ≡ list_any t (cond (v j) (j ∷ filter v ks) (filter v ks))
    by_test true is more = ap (λ x. list_any t (cond x (j ∷ filter u ks) (filter u ks))) (same j is) ∙ either (v j) more
    by_test false is more = none u (u j) is ∙ more ∙ sym (none v (v j) is)

-- a cut leaves what concerns a cluster
pub sync_keeps_concerns : (places : Places) (k : ClusterNo) (pid : Pid) (small : SmallState) (read : List ℕ) (took : Option ℕ) (b : Pid × Pid)
    → concerns (placed_after places (Sync pid small read took)) k b ≡ concerns places k b
sync_keeps_concerns places k pid small read took b =
    ap (λ o. option_map_or of_it o false) (unended_map (after_sync pid) (sync_keeps pid) places (placed_after places (Sync pid small read took)) refl b.1) ∙ by_found (unended_at places b.1)
  where
    of_it : Placed → Bool
    of_it q = same_cluster q.home k || is_cluster q.backup k

    one : (q : Placed) (x : Bool) → of_it (cond x (record q { synced = true }) q) ≡ of_it q
    one q true = refl
    one q false = refl

    by_found : (o : Option Placed) → option_map_or of_it (option_map (after_sync pid) o) false ≡ option_map_or of_it o false
    by_found None = refl
    by_found (Some q) = one q (same_pid q.pid pid)

-- ---- the law

module _ (c : ClusterView) (log : List Entry) (e : Entry) (server : Option PagerState) (valid : is_system c.system ≡ true) (now : IsOpen MayStand c.system log)
    (next : IsOpen MayStand c.system (log ++ e ∷ [])) (comes : goes_to e.dests c.number ≡ true) (foreign : is_by_cluster c.number e ≡ false) (spared : is_crash_of c.number (what e) ≡ false)
    (order : are_rising (moved_by c.places c.number (what e) (records_after c.number (what e) c.records)) ≡ true) (serves : Serves (placement c.system log) e c.server server)
    (unrenewed : is_rebackup (what e) ≡ false) (f : FollowsHeard c.system log c) where
  abbrev k : ClusterNo
  k = c.number

  abbrev places : Places
  places = placement c.system log

  abbrev later : List Entry
  later = log ++ e ∷ []

  may : MayStand c.system log e
  may = IsLegal-last MayStand c.system log e next.0

  of_kind : Follows c.system log (shadow log c)
  of_kind = shadow_follows c log valid now.0 f

  ready : ReadyFor e (shadow log c)
  ready = record { log = log; open_log = now; open_next = next; ready = inl (of_kind, foreign, spared) }

  abbrev recs : List BackRec
  recs = records_after c.number (what e) c.records

  same_moved : moved_by c.places k (what e) recs ≡ moved_by places k (what e) recs
  same_moved = moved_alike c.system k c.places places (what e) recs (f.log).places

  same_left : left_by c.places k (what e) recs ≡ left_by places k (what e) recs
  same_left = left_alike c.system k c.places places (what e) recs (f.log).places

  rising_there : are_rising (moved_by places k (what e) recs) ≡ true
  rising_there = ap are_rising (sym same_moved) ∙ order

  own_there : AllOwn (length log) c.here
  own_there = own_upto c.cursor (length log) c.here (f.log).within f.own

  abbrev taken : ClusterView
  taken = with_server server (absorbed (shadow log c) e)

  abbrev heard : ClusterView
  heard = with_server server (with_heard c e)

  goes_on : Follows c.system later taken
  goes_on = absorbs (shadow log c) e server valid own_there rising_there serves log now next (inl (of_kind, foreign, spared))

  here_is : taken.here ≡ heard.here
  here_is = ap (λ rs. with_all_waiting rs (here_after (what e) c.here)) (sym same_moved)

  recs_are : taken.records ≡ heard.records
  recs_are = sym same_left

  queue_is : taken.queue ≡ heard.queue
  queue_is = sym (queues_alike c.system k c.places places (what e) c.queue (f.log).places)

  owed_are : taken.owed ≡ heard.owed
  owed_are = sym (owed_alike c.system k c.places places (what e) c.owed unrenewed (f.log).places)

  as_heard : taken ≡ alike heard taken.cursor taken.places taken.family taken.steps
  as_heard = λ i. record heard { cursor = taken.cursor; places = taken.places; here = here_is i; records = recs_are i; family = taken.family; owed = owed_are i; queue = queue_is i; steps = taken.steps }

  still : Follows c.system later (alike heard taken.cursor taken.places taken.family taken.steps)
  still = subst (Follows c.system later) as_heard goes_on

  -- no new backup is queued
  still_plain : are_plain heard.queue ≡ true
  still_plain = left_all (λ (post : Post). not (is_rebackup post.what)) c.places (what e) c.queue f.plain

  at_later : placement c.system later ≡ placed_after places (what e)
  at_later = placement-snoc c.system log e

  own_later : AllOwn (length log + 1) heard.here
  own_later = subst (AllOwn (length log + 1)) here_is (owns_waiting (shadow log c) e valid ready rising_there (here_after (what e) c.here) (ready_own (shadow log c) e ready own_there))

  -- ---- the cluster itself, and the page servers

  place_is : e.place ≡ length log
  place_is = ((may.stands).placed).0

  -- it is another cluster that an entry brings back, since this one lives
  back_other : (j : ClusterNo) → what e ≡ Return j → eqb j.0 k.0 ≡ false
  back_other j is = by_test (eqb j.0 k.0) refl
    where
      lost : is_lost_in places j ≡ true
      lost = subst (KindHolds c.system log e) is (may.stands).kind

      living : (o : Option ClusterPlace) → option_map_or (λ (c : ClusterPlace). c.lives) o false ≡ true → option_map_or (λ (c : ClusterPlace). not c.lives) o false ≡ false
      living None lives = refl
      living (Some place) lives = ap not lives

      by_test : (x : Bool) → eqb j.0 k.0 ≡ x → eqb j.0 k.0 ≡ false
      by_test true same =
          let here : is_lost_in places k ≡ true = ap (λ n. option_map_or (λ (c : ClusterPlace). not c.lives) (slice_get places.clusters n) false) (sym (eqb-true j.0 k.0 same)) ∙ lost in
          absurd (true≢false (sym here ∙ living (slice_get places.clusters k.0) f.lives))
      by_test false apart = apart

  -- and it is another that one loses
  asks_stay : (t : ClusterPlace → Bool) → ((c : ClusterPlace) → t (raised_serial c) ≡ t c) → (w : What) → ((j : ClusterNo) → w ≡ Return j → eqb j.0 k.0 ≡ false) → is_crash_of k w ≡ false
      → option_map_or t (slice_get (placed_after places w).clusters k.0) false ≡ option_map_or t (slice_get places.clusters k.0) false
  asks_stay t same (Birth parent at child end) back other = birth_keeps t same places child (placed_at places parent) k
  asks_stay t same (Crash lost cause) back other = ap (λ o. option_map_or t o false) (lost_other places.clusters lost.0 k.0 other)
  asks_stay t same (Return j) back other = ap (λ o. option_map_or t o false) (changed_other returned_cluster places.clusters j.0 k.0 (back j refl))
  asks_stay t same _ back other = refl

  asked_later : (t : ClusterPlace → Bool) → ((c : ClusterPlace) → t (raised_serial c) ≡ t c)
      → option_map_or t (slice_get (placement c.system later).clusters k.0) false ≡ option_map_or t (slice_get places.clusters k.0) false
  asked_later t same = ap (λ (p : Places). option_map_or t (slice_get p.clusters k.0) false) at_later ∙ asks_stay t same (what e) back_other spared

  served_before : (o p : Option PagerState) → Serves places e o p → is_some p ≡ true → is_some o ≡ true
  served_before None p is some = absurd (true≢false (sym some ∙ ap is_some is))
  served_before (Some s) p is some = refl

  server_stays : is_some server ≡ true → list_any (λ s. same_cluster s k) (servers_in (placement c.system later)) ≡ true
  server_stays some =
      ap (λ pair. list_any (λ s. same_cluster s k) (filter (never_lost (placement c.system later)) (pair.0 ∷ pair.1 ∷ []))) (ap (λ (p : Places). p.pager) at_later
      ∙ same_pager (what e) places)
      ∙ any_alike (λ s. same_cluster s k) (never_lost (placement c.system later)) (never_lost places) ((places.pager).0 ∷ (places.pager).1 ∷ []) one
      ∙ f.server (served_before c.server server serves some)
    where
      one : (j : ClusterNo) → same_cluster j k ≡ true → never_lost (placement c.system later) j ≡ never_lost places j
      one j is =
          let same : j ≡ k = λ i. record { 0 = eqb-true j.0 k.0 is i } in
          ap (never_lost (placement c.system later)) same ∙ asked_later (λ (c : ClusterPlace). not c.was_lost) (λ c. refl) ∙ ap (never_lost places) (sym same)

  -- ---- the children that never synchronised

  abbrev Kept : What → Type 0
  Kept w = family_heard c.places k w c.family ≡ filter (concerns (placement c.system later) k) (unsynced_births c.system later)

  abbrev of_here : Placed → Bool
  of_here q = same_cluster q.home k || is_cluster q.backup k

  alike_here : (w : What) → what e ≡ w → changes_unsynced w ≡ false → ((b : Pid × Pid) → concerns places k b ≡ concerns (placed_after places w) k b)
      → c.family ≡ filter (concerns (placement c.system later) k) (unsynced_births c.system later)
  alike_here w is none same =
      f.family ∙ filters_same (concerns places k) (concerns (placed_after places w) k) (unsynced_births c.system log) same
      ∙ (λ i. filter (concerns (placed_after places (sym is i)) k) (unsynced_births c.system log))
      ∙ (λ i. filter (concerns (sym at_later i) k) (sym (others_leave c.system log e (ap changes_unsynced is ∙ none)) i))

  there : (w : What) → what e ≡ w → placement c.system later ≡ placed_after places w
  there w is = at_later ∙ ap (placed_after places) is

  -- a loss of another cluster leaves what concerns this one
  loss_one : (lost : ClusterNo) (q : Placed) → same_cluster lost k ≡ false → q.ended ≡ false → of_here (after_loss lost q) ≡ of_here q
  loss_one lost q other open_still =
      ap (λ b. of_here (cond b q (cond (same_cluster q.home lost) (moved_to q lost q.backup) (cond (is_cluster q.backup lost) (record q { backup = None; lost = Some lost }) q)))) open_still
      ∙ by_home (same_cluster q.home lost) refl
    where
      or_false : (x : Bool) → (x || false) ≡ x
      or_false true = refl
      or_false false = refl

      apart : (j : ClusterNo) → same_cluster j lost ≡ true → same_cluster j k ≡ false
      apart j is = ap (λ n. eqb n k.0) (eqb-true j.0 lost.0 is) ∙ other

      by_backup : (o : Option ClusterNo) → q.backup ≡ o → same_cluster q.home lost ≡ true → of_here (moved_to q lost o) ≡ of_here q
      by_backup None is moved = refl
      by_backup (Some b) is moved = or_false (same_cluster b k) ∙ (λ i. sym (apart q.home moved) i || same_cluster b k) ∙ ap (λ o. same_cluster q.home k || is_cluster o k) (sym is)

      by_named : (o : Option ClusterNo) → q.backup ≡ o → is_cluster o lost ≡ true → (same_cluster q.home k || false) ≡ of_here q
      by_named None is named = absurd (true≢false (sym named))
      by_named (Some b) is named = ap (λ x. same_cluster q.home k || x) (sym (apart b named)) ∙ ap (λ o. same_cluster q.home k || is_cluster o k) (sym is)

      by_lost : (x : Bool) → is_cluster q.backup lost ≡ x → of_here (cond x (record q { backup = None; lost = Some lost }) q) ≡ of_here q
      by_lost true is = by_named q.backup refl is
      by_lost false is = refl

      by_home : (x : Bool) → same_cluster q.home lost ≡ x → of_here (cond x (moved_to q lost q.backup) (cond (is_cluster q.backup lost) (record q { backup = None; lost = Some lost }) q)) ≡ of_here q
      by_home true is = by_backup q.backup refl is
      by_home false is = by_lost (is_cluster q.backup lost) refl

  loss_concerns : (lost : ClusterNo) (cause : Cause) → same_cluster lost k ≡ false → (b : Pid × Pid) → concerns places k b ≡ concerns (placed_after places (Crash lost cause)) k b
  loss_concerns lost cause other b =
      by_found (unended_at places b.1) refl ∙ ap (λ o. option_map_or of_here o false) (sym (unended_map (after_loss lost) (loss_keeps lost) places (placed_after places (Crash lost cause)) refl b.1))
    where
      by_found : (o : Option Placed) → unended_at places b.1 ≡ o
          → option_map_or of_here (unended_at places b.1) false ≡ option_map_or of_here (option_map (after_loss lost) (unended_at places b.1)) false
      by_found None is = ap (λ o. option_map_or of_here o false) is ∙ ap (λ o. option_map_or of_here (option_map (after_loss lost) o) false) (sym is)
      by_found (Some q) is =
          ap (λ o. option_map_or of_here o false) is ∙ sym (loss_one lost q other (unended_open_at places b.1 q is)) ∙ ap (λ o. option_map_or of_here (option_map (after_loss lost) o) false) (sym is)

  -- a child that is born concerns it where its parent does
  birth_kept : (parent : Pid) (at : ℕ) (child : Pid) (end : ℕ) → what e ≡ Birth parent at child end → Kept (Birth parent at child end)
  birth_kept parent at child end is =
      by_kept (concerns c.places k (child, parent))
      ∙ (λ i. f.family i ++ cond (sym asked i) ((parent, child) ∷ []) [])
      ∙ ap (λ bs. bs ++ cond (concerns (placement c.system later) k (parent, child)) ((parent, child) ∷ []) [])
      (filter_alike (concerns places k) (concerns (placement c.system later) k) (unsynced_births c.system log) (λ b m. sym (before b m)))
      ∙ sym (filter-append (concerns (placement c.system later) k) (unsynced_births c.system log) ((parent, child) ∷ []))
      ∙ ap (filter (concerns (placement c.system later) k)) (sym (birth_last c.system log e parent at child end valid stands may.stands is))
    where
      stands : IsLegalBy Stands c.system log
      stands = all_stand c.system log now.0

      all : Families c.system log
      all = families Stands (λ system log e stands. stands) c.system log valid stands

      kind : BirthHolds c.system log parent at child end
      kind = subst (KindHolds c.system log e) is (may.stands).kind

      right : is_by_home places (e.post).by (Some parent) ≡ true
      right = ap (is_by_right places (e.post).by) (sym is) ∙ (may.stands).by_right

      born : BornRightly places parent child
      born = born_rightly places (e.post).by parent child right kind.child_is

      by_kept : (x : Bool) → cond x (c.family ++ (parent, child) ∷ []) c.family ≡ c.family ++ cond x ((parent, child) ∷ []) []
      by_kept true = refl
      by_kept false = sym (append-nil c.family)

      -- whoever was born before concerns it as before
      before : (b : Pid × Pid) → Member b (unsynced_births c.system log) → concerns (placement c.system later) k b ≡ concerns places k b
      before b m = ap (λ o. option_map_or of_here o false) (found_born c.system log e may.stands all parent at child end is born b.1 (apart (same_pid child b.1) refl))
        where
          second : (x y : Bool) → y ≡ true → (x || y) ≡ true
          second true y h = refl
          second false y h = h

          apart : (x : Bool) → same_pid child b.1 ≡ x → same_pid child b.1 ≡ false
          apart true same =
              absurd (true≢false (sym (passes_any (stands_in child) (unsynced_births c.system log) b m (second (same_pid child b.0) (same_pid child b.1) same))
              ∙ stands_in_none c.system log e parent at child end valid stands may.stands is))
          apart false same = same

      asked : concerns (placement c.system later) k (parent, child) ≡ concerns c.places k (child, parent)
      asked =
          ap (λ o. option_map_or of_here o false) (found_child c.system log e may.stands all parent at child end is born) ∙ ap (λ o. option_map_or of_here o false) (sym born.found)
          ∙ sym (concerns_alike c.system k c.places places (f.log).places (child, parent))

  family_kept : (w : What) → what e ≡ w → is_crash_of k w ≡ false → Kept w
  family_kept (Birth parent at child end) is other = birth_kept parent at child end is
  family_kept (Exit pid at end) is other =
      ap (filter (λ (b : Pid × Pid). not (same_pid b.1 pid))) f.family
      ∙ without_child (concerns places k) (concerns (placement c.system later) k) pid (unsynced_births c.system log)
      (λ b apart. ap (λ ps. concerns ps k b) (there (Exit pid at end) is)
      ∙ ap (λ o. option_map_or of_here o false) (unended_exit pid b.1 places.placed (λ same. true≢false (sym (eq-eqb (b.1).0 pid.0 same) ∙ apart))))
      ∙ ap (filter (concerns (placement c.system later) k)) (sym (ended_goes c.system log e pid at end is))
  family_kept (Sync pid small read took) is other =
      ap (filter (λ (b : Pid × Pid). not (same_pid b.1 pid))) f.family
      ∙ without_child (concerns places k) (concerns (placement c.system later) k) pid (unsynced_births c.system log) (λ b apart. ap (λ ps. concerns ps k b) (there (Sync pid small read took) is)
      ∙ sync_keeps_concerns places k pid small read took b)
      ∙ ap (filter (concerns (placement c.system later) k)) (sym (synced_goes c.system log e pid small read took is))
  family_kept (Crash lost cause) is other = alike_here (Crash lost cause) is refl (loss_concerns lost cause other)
  family_kept (Rebackup to fresh more) is other = absurd (true≢false (sym (ap is_rebackup is) ∙ unrenewed))
  family_kept w is other = alike_here w is refl (λ b. refl)

  -- ---- the whole

  more_steps : least_steps (heard_in k later) later k ≡ least_steps (heard_in k log) log k + 1
  more_steps =
      let one = with_last (λ (e : Entry). goes_to e.dests k) log e comes in
      let sent : count_by (is_by_cluster k) later ≡ count_by (is_by_cluster k) log =
      count_by-snoc (is_by_cluster k) log e ∙ ap (λ b. count_by (is_by_cluster k) log + cond b 1 0) foreign ∙ add-zero _ in
      omega (arith, one, sent)

  pub heard_follows : FollowsHeard c.system later heard
  heard_follows = record {
    lives = asked_later (λ (c : ClusterPlace). c.lives) (λ c. refl) ∙ f.lives;
    log = record {
      within = omega (arith, place_is, length-append log (e ∷ []));
      none_left = ap (λ n. list_any (λ (e : Entry). goes_to e.dests k) (drop (n + 1) later)) place_is ∙ ap (list_any (λ (e : Entry). goes_to e.dests k)) (all_dropped log e);
      places = subst (λ ps. KnowsPlaces c.system k (placed_after c.places (what e)) ps) (sym at_later) (known_after c.system k c.places places (what e) unrenewed (f.log).places);
    };
    processes = record { held = (still.processes).held; each_once = (still.processes).each_once };
    queue = record { own = (still.queue).own; legal = (still.queue).legal };
    queued = queued_back heard later taken.cursor taken.places taken.family taken.steps still.queued;
    plain = still_plain;
    steps = record {
      counted = λ kept.
          let before = (f.steps).counted (lost_before log e k kept) in
          let after : capped (least_steps (heard_in k log) log k + cond c.tried 1 0 + 1) ≤ next_count c.steps = capped_next (least_steps (heard_in k log) log k + cond c.tried 1 0) c.steps before in
          let same : least_steps (heard_in k log) log k + cond c.tried 1 0 + 1 ≡ least_steps (heard_in k later) later k + cond c.tried 1 0 = omega (arith, more_steps) in
          subst (λ n. capped n ≤ next_count c.steps) same after;
    };
    limits = still.limits;
    pages = still.pages;
    marks = still.marks;
    records = still.records;
    family = family_kept (what e) refl spared;
    owed = still.owed;
    backups = still.backups;
    forks = λ parent child q h at beside any.
        still.forks parent child q h at beside
        (ap (list_any (λ (b : Pid × Pid). same_pid b.0 parent && same_pid b.1 child)) still.family
        ∙ any_less (λ (b : Pid × Pid). same_pid b.0 parent && same_pid b.1 child) (concerns (placement c.system later) k) (unsynced_births c.system later)
        (ap (list_any (λ (b : Pid × Pid). same_pid b.0 parent && same_pid b.1 child)) (sym (family_kept (what e) refl spared)) ∙ any));
    accounts = record { keeps = (still.accounts).keeps; there = (still.accounts).there; calls = (still.accounts).calls };
    server = server_stays;
    disk = still.disk;
    own = subst (λ n. AllOwn (n + 1) heard.here) (sym place_is) own_later;
  }

pub taken_in_heard : (c : ClusterView) (log : List Entry) (e : Entry) (server : Option PagerState) → is_system c.system ≡ true → IsOpen MayStand c.system log
    → IsOpen MayStand c.system (log ++ e ∷ []) → goes_to e.dests c.number ≡ true → is_by_cluster c.number e ≡ false
    → is_crash_of c.number (what e) ≡ false → are_rising (moved_by c.places c.number (what e) (records_after c.number (what e) c.records)) ≡ true → Serves (placement c.system log) e c.server server
    → is_rebackup (what e) ≡ false → FollowsHeard c.system log c
    → FollowsHeard c.system (log ++ e ∷ []) (with_server server (with_heard c e))
taken_in_heard c log e server valid now next comes foreign spared order serves unrenewed f = heard_follows c log e server valid now next comes foreign spared order serves unrenewed f
