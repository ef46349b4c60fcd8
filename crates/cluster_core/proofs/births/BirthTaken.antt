-- A cluster that has a birth queued and takes an entry in goes on to follow the log: an entry of another cluster, or the birth itself.
use Rattle.std.proofs.Common.{◌≡◌, ℕ, ◌+◌, refl, sym, ◌∙◌, ap, subst, arith, List, [], ◌∷◌, ◌++◌, length-append, Bool, true, false, eqb, eqb-true, Option, Some, None, is_some, inl, inr}
use Rattle.std.specs.List.{list_any}
use Rattle.t32_base.specs.declared.process.Pid.{Pid}
use Rattle.sys_text.specs.declared.system.System.{System}
use Rattle.sys_text.specs.Valid.{is_system}
use Rattle.proc_state.specs.State.{state_of}
use Rattle.sys_calls.specs.Fork.{next_end}
use Rattle.bus_msg.specs.declared.entry.What.{What}
use Rattle.bus_msg.specs.declared.entry.What.TheVariants.{Birth}
use Rattle.bus_msg.specs.declared.entry.Entry.{Entry}
use Rattle.bus_msg.specs.Places.{Places, placed_at, same_pid}
use Rattle.bus_msg.specs.PlacedAfter.{placed_after, what, with_birth as with_child}
use Rattle.channel_table.specs.Changes.{CanBeAbsorbed, pids_differ}
use Rattle.page_server.specs.Account.{PagerState}
use Rattle.cert_sched.specs.Appended.{entry_of}
use Rattle.cert_sched.specs.Legal.{MayStand}
use Rattle.cert_sched.specs.Losses.{is_by_cluster, is_crash_of, is_page_entry, least_calls}
use Rattle.cert_sched.specs.Parts.{put_rising, rising}
use Rattle.cert_sched.specs.Rests.{home_pids}
use Rattle.cert_sched.specs.Rules.{has_its_pages, home_at, has_awaited_backup}
use Rattle.cert_sched.specs.Schedule.{placement}
use Rattle.cert_sched.proofs.FreshLaws.{only_one}
use Rattle.cert_sched.proofs.LogLaws.{IsLegal-last, placement-snoc}
use Rattle.cert_sched.proofs.NextChildren.{may_be_absorbed}
use Rattle.cert_sched.proofs.PidLaws.{apart_of}
use Rattle.cert_sched.proofs.RisingLaws.{put_all-none, put_all-put, rising-append}
use Rattle.backup_records.specs.Records.{records_after}
use Rattle.log_laws.specs.records.Kept.{changes_in_place}
use Rattle.log_laws.proofs.records.KeptLaws.{records_kept}
use Rattle.log_laws.proofs.records.Standing.{all_stand}
use Rattle.cluster_core.specs.Families.{family_after}
use Rattle.cluster_core.specs.Owed.{owed_after}
use Rattle.cluster_core.proofs.awaiting.OwedNext.{owed_next}
use Rattle.birth_notice.specs.Family.{stands_in}
use Rattle.log_laws.proofs.births.NewBirth.{stands_in_none}
use Rattle.cluster_core.specs.ForksAgain.{ForksLeft}
use Rattle.cluster_core.proofs.forks.ForksBorn.{forks_born}
use Rattle.cluster_core.proofs.births.FamilyNext.{family_next}
use Rattle.cluster_core.specs.View.{ClusterView, after_sent, held_at, limits_of, next_count, with_server}
use Rattle.residents.specs.Held.{Held, Runs, IsHeldWithin, held_of}
use Rattle.residents.specs.Residents.{pids_in}
use Rattle.cluster_core.specs.Parts.{AllOwn}
use Rattle.cluster_core.specs.Queue.{Nothing, with_queue}
use Rattle.cluster_core.specs.Holds.{CarriesMarks, IsHeldAs, MarkedIfThere, process_in, unended_process}
use Rattle.cluster_core.specs.Follows.{Follows, IsOpen, StandsBetween}
use Rattle.cluster_core.specs.Bearing.{BearsChild, birth_post}
use Rattle.residents.specs.Bearing.{forked, newborn, with_born}
use Rattle.cluster_core.specs.Recovered.{left_by, moved_by, with_all_waiting}
use Rattle.cluster_core.specs.Calls.{with_entry, here_after}
use Rattle.cluster_core.specs.Serving.{Serves}
use Rattle.cluster_core.proofs.syncs.Batching.{unqueued}
use Rattle.cluster_core.proofs.here.Beside.{FollowsBeside, all_of}
use Rattle.cluster_core.proofs.births.BirthHomes.{child_here}
use Rattle.cluster_core.proofs.births.BirthQueued.{birth_head, with_birth, without_birth}
use Rattle.cluster_core.proofs.births.BirthStayed.{bears_still}
use Rattle.cluster_core.proofs.births.BornHere.{FoundBorn, found_born, pids_born}
use Rattle.cluster_core.proofs.absorbing.Counted.{count_by-snoc, lost_before}
use Rattle.cluster_core.proofs.absorbing.Following.{counted_own}
use Rattle.cluster_core.proofs.here.Here.{is_among}
use Rattle.residents.proofs.Changing.{pid_same, any_pids}
use Rattle.cluster_core.proofs.losses.Homes.{HomeHere, pids_apart, home_here, pids_home}
use Rattle.cluster_core.proofs.births.OwnBirth.{child_held, child_marked, child_pages, child_within, other_held, other_marked, other_pages, parent_held, parent_marked, parent_pages, parent_within}
use Rattle.cluster_core.proofs.absorbing.Served.{accounts_on, ahead_after, brought}
use Rattle.cluster_core.proofs.syncs.Stayed.{RunsStill}
use Rattle.cert_sched.specs.Deeds.{letter_for}
use Rattle.cluster_core.specs.Standing.{has_begun}
use Rattle.cluster_core.proofs.awaiting.Awaited.{awaited_after, born_awaited}

-- ---- an entry of another cluster

pub follows_beside_birth : (c : ClusterView) (log : List Entry) (e : Entry) (b : BearsChild c.system log c) → is_system c.system ≡ true → IsOpen MayStand c.system log → IsOpen MayStand c.system (log ++ e ∷ []) → Follows c.system log c
    → is_by_cluster c.number e ≡ false → is_crash_of c.number (what e) ≡ false → (server : Option PagerState) → FollowsBeside all_of c.system (log ++ e ∷ []) (with_server server (with_entry (unqueued c) e))
    → home_at (placement c.system (log ++ e ∷ [])) b.pid ≡ home_at (placement c.system log) b.pid → ((h : Held) → held_at (with_entry c e) b.pid ≡ Some h → RunsStill (letter_for b.pid (what e)) b.process h) → Follows c.system (log ++ e ∷ []) (with_server server (with_entry c e))
follows_beside_birth c log e b valid now later f other spared server beside same_home stays =
    let new : ClusterView = with_server server (with_entry c e) in
    with_birth c.system (log ++ e ∷ []) new (bears_still c log e b valid now later (f.processes).each_once other spared new refl refl refl (beside.processes).each_once same_home stays) valid later beside

-- ---- the birth itself

-- one more at the end, by rising pid
rising-last : (xs : List ℕ) (n : ℕ) → rising (xs ++ n ∷ []) ≡ put_rising n (rising xs)
rising-last xs n = rising-append xs (n ∷ []) ∙ put_all-put xs n [] ∙ ap (put_rising n) (put_all-none xs)

module _ (system : System) (valid : is_system system ≡ true) (log : List Entry) (v : ClusterView) (g : Follows system log v) (tried : v.tried ≡ true) (own : AllOwn v.cursor v.here) (b : BearsChild system log v) (e : Entry)
    (whole : entry_of system log (birth_post v.number b.pid (state_of b.process) b.child) ≡ e) (now : IsOpen MayStand system log) (next : IsOpen MayStand system (log ++ e ∷ [])) where
  abbrev later : List Entry
  later = log ++ e ∷ []

  abbrev places : Places
  places = placement system log

  abbrev p : Pid
  p = b.pid

  abbrev child : Pid
  child = b.child

  is : what e ≡ Birth p (((b.process).small).steps + 1) child (next_end (state_of b.process))
  is = sym (ap (λ (x : Entry). what x) whole)

  f : FollowsBeside all_of system log (unqueued v)
  f = without_birth system log v b valid now g

  differ : pids_differ places.placed ≡ true
  differ = pids_apart system log valid now.0

  home : HomeHere places p v.number
  home = home_here places v.number (pids_in v.here) p differ (g.processes).each_once (is_among v.here p (Runs b.process) b.there)

  -- the child was nowhere
  nowhere : placed_at places child ≡ None
  nowhere = (subst (CanBeAbsorbed places) is (may_be_absorbed system log e valid now.0 (IsLegal-last MayStand system log e next.0).stands)).0

  pub absent : list_any (λ (e : Pid × Held). same_pid e.0 child) v.here ≡ false
  absent = any_pids child v.here ∙ by_test (list_any (λ n. eqb n child.0) (pids_in v.here)) refl
    where
      by_test : (t : Bool) → list_any (λ n. eqb n child.0) (pids_in v.here) ≡ t → t ≡ false
      by_test true among =
          let there = home_here places v.number (pids_in v.here) child differ (g.processes).each_once among in
          let both : Some there.placed ≡ None = sym (only_one child places.placed there.placed (apart_of places.placed differ) there.found) ∙ nowhere in
          cc
      by_test false among = refl

  -- now it is at home beside its parent
  pids_later : home_pids system later v.number ≡ home_pids system log v.number ++ child.0 ∷ []
  pids_later =
      let placed : placed_at places p ≡ Some home.placed = only_one p places.placed home.placed (apart_of places.placed differ) home.found in
      let there : placement system later ≡ with_child places child (Some home.placed) = placement-snoc system log e ∙ ap (placed_after places) is ∙ ap (with_child places child) placed in
      ap (λ (ps : Places). pids_home v.number ps.placed) there ∙ child_here v.number places child home.placed home.home

  once : rising (pids_in (with_born p child v.here)) ≡ rising (home_pids system later v.number)
  once = pids_born p child b.process v.here b.there ∙ ap (put_rising child.0) (g.processes).each_once ∙ sym (rising-last (home_pids system log v.number) child.0) ∙ ap rising (sym pids_later)

  -- what holds of the parent, of the child and of each other holds of all that are here
  each : (Holds : Pid → Held → Type 0) → Holds p (Runs (forked b.process child)) → Holds child (Runs (newborn b.process child)) → ((q : Pid) (h : Held) → held_at v q ≡ Some h → same_pid p q ≡ false → Holds q h)
      → (q : Pid) (h : Held) → held_of (with_born p child v.here) q ≡ Some h → Holds q h
  each Holds parent begun others q h at = by_found (found_born p child b.process v.here b.there absent q h at)
    where
      by_found : FoundBorn p child b.process v.here q h → Holds q h
      by_found (inl n) = subst (λ (r : Pid). Holds r h) (pid_same child q (eqb-true child.0 q.0 n.own)) (subst (Holds child) (sym n.is) begun)
      by_found (inr (inl k)) = subst (λ (r : Pid). Holds r h) (pid_same p q (eqb-true p.0 q.0 k.own)) (subst (Holds p) (sym k.is) parent)
      by_found (inr (inr o)) = others q h o.there o.other

  -- the cluster with the fork made
  abbrev born_view : ClusterView
  born_view = record v { cursor = v.cursor + 1; places = placed_after v.places (what e); here = with_born p child v.here; records = records_after v.number (what e) v.records; family = family_after (what e) v.family; owed = owed_after v.number v.places (what e) v.owed; queue = []; tried = false; steps = next_count v.steps }

  same_whole : with_queue system log v.queue ≡ later
  same_whole = ap (with_queue system log) b.posts ∙ ap (λ (x : Entry). log ++ x ∷ []) whole

  -- the least calls of its disk stay
  calls : least_calls system later (with_queue system later []) v.number ≡ least_calls system log (with_queue system log v.queue) v.number + brought e
  calls =
      let same = ap (λ sent. least_calls system log sent v.number) same_whole in
      let pages = count_by-snoc (λ (e : Entry). is_page_entry (what e)) log e in
      omega (arith, same, pages)

  -- the child runs, as its parent does
  forks_after : ForksLeft (family_after (what e) v.family) (with_born p child v.here)
  forks_after =
      let new = subst (λ births. list_any (stands_in child) births ≡ false) (sym g.family)
      (stands_in_none system log e p (((b.process).small).steps + 1) child (next_end (state_of b.process)) valid (all_stand system log now.0) (IsLegal-last MayStand system log e next.0).stands is) in
      subst (λ w. ForksLeft (family_after w v.family) (with_born p child v.here)) (sym is) (forks_born v.family v.here p child b.process b.there absent new g.forks)

  still_awaited : (q : Pid) → HomeHere places q v.number → has_awaited_backup system log q ≡ true → has_awaited_backup system later q ≡ true
  still_awaited q home has = awaited_after system log e q v.number valid now.0 (IsLegal-last MayStand system log e next.0).stands differ home (ap (is_crash_of v.number) is) has

  pub follows_born : (server : Option PagerState) → Serves places e v.server server → Follows system later (with_server server born_view)
  follows_born server serves = record {
    log = record {
      cursor = ap (λ m. m + 1) (g.log).cursor ∙ sym (length-append log (e ∷ []));
      places = ap (λ (ps : Places). placed_after ps (what e)) (g.log).places ∙ sym (placement-snoc system log e);
    };
    processes = record {
      held = each (λ q h. IsHeldAs system later [] q h) (parent_held system valid log e v f b whole now next) (child_held system valid log e v f b whole now next) (other_held system valid log e v f b whole now next own);
      each_once = once;
    };
    queue = record { own = refl; legal = tt };
    queued = inl (record { queued = Nothing; posts = refl; together = tt });
    steps = record { counted = λ kept. counted_own system log e v.number v.tried v.steps tried ((g.steps).counted (lost_before log e v.number kept)) };
    limits = each (λ q h. IsHeldWithin (limits_of system) h) (parent_within system valid log e v f b whole now next) (child_within system valid log e v f b whole now next) (λ q h at other. g.limits q h at);
    pages = each (λ q h. is_some (process_in h) ≡ true → has_its_pages system later q ≡ true) (λ some. parent_pages system valid log e v f b whole now next) (λ some. child_pages system valid log e v f b whole now next)
        (other_pages system valid log e v f b whole now next);
    marks = each (λ q h. MarkedIfThere CarriesMarks system later q (unended_process h)) (parent_marked system valid log e v f b whole now next) (child_marked system valid log e v f b whole now next)
        (other_marked system valid log e v f b whole now next);
    family = family_next system log e v.family valid now next g.family;
    owed = owed_next system log e v.number v.places v.owed valid next (g.log).places (ap (is_crash_of v.number) is) g.owed;
    backups = each (λ q h. has_begun h ≡ true → has_awaited_backup system later q ≡ true) (λ begun. still_awaited p home (g.backups p (Runs b.process) b.there refl))
        (λ begun. born_awaited system log e p (((b.process).small).steps + 1) child (next_end (state_of b.process)) valid (all_stand system later next.0) is)
        (λ q h at other begun. still_awaited q (home_here places v.number (pids_in v.here) q differ (g.processes).each_once (is_among v.here q h at)) (g.backups q h at begun));
    forks = forks_after;
    records = records_kept system log e v.number v.records valid (all_stand system later next.0) (ap changes_in_place is) g.records;
    accounts = accounts_on system log e v (with_server server born_view) serves refl calls g.accounts;
    disk = ((g.disk).0, ahead_after places e v.server server serves (g.disk).1);
  }

  -- so it is the cluster that has taken the entry in
  pub taken_born : with_entry (record v { queue = []; tried = false }) e ≡ born_view
  taken_born = ap taken is ∙ sym (ap made is)
    where
      taken : What → ClusterView
      taken w = record v {
        cursor = v.cursor + 1;
        places = placed_after v.places w;
        here = with_all_waiting (moved_by v.places v.number w (records_after v.number w v.records)) (here_after w v.here);
        records = left_by v.places v.number w (records_after v.number w v.records);
        family = family_after w v.family;
        owed = owed_after v.number v.places w v.owed;
        queue = [];
        tried = false;
        steps = next_count v.steps;
      }

      made : What → ClusterView
      made w = record v { cursor = v.cursor + 1; places = placed_after v.places w; here = with_born p child v.here; records = records_after v.number w v.records; family = family_after w v.family; owed = owed_after v.number v.places w v.owed; queue = []; tried = false; steps = next_count v.steps }

-- a cluster that takes in the birth that it had queued
pub follows_own_birth : (c : ClusterView) (log : List Entry) (e : Entry) (server : Option PagerState) → is_system c.system ≡ true → AllOwn c.cursor c.here → IsOpen MayStand c.system log → IsOpen MayStand c.system (log ++ e ∷ [])
    → (s : StandsBetween Follows c.system log e c) → BearsChild c.system log s.before → Serves (placement c.system log) e c.server server → Follows c.system (log ++ e ∷ []) (with_server server (with_entry c e))
follows_own_birth c log e server valid own now later s b serves =
    subst (λ (d : ClusterView). Follows c.system (log ++ e ∷ []) (with_server server (with_entry d e))) (sym same)
    (subst (λ (d : ClusterView). Follows c.system (log ++ e ∷ []) (with_server server d)) (sym (taken_born c.system valid log v s.followed s.tried mine b e whole now later))
    (follows_born c.system valid log v s.followed s.tried mine b e whole now later server (subst (λ (d : ClusterView). Serves (placement c.system log) e d.server server) same serves)))
  where
    v : ClusterView
    v = s.before

    whole : entry_of c.system log (birth_post v.number b.pid (state_of b.process) b.child) ≡ e
    whole = birth_head c.system log e v b s.head

    same : c ≡ record v { queue = []; tried = false }
    same = s.sent ∙ ap (after_sent v) b.posts

    mine : AllOwn v.cursor v.here
    mine = subst (λ (d : ClusterView). AllOwn d.cursor d.here) same own
