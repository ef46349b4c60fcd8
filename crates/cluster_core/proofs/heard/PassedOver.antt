-- A cluster that follows a log by what goes to it follows it with an entry more that neither goes to it nor comes from it.
use Rattle.std.proofs.Common.{◌≡◌, ℕ, zero, suc, ◌+◌, ◌≤◌, refl, sym, ◌∙◌, ap, subst, arith, List, [], ◌∷◌, ◌++◌, length, Bool, true, false, cond, not, ◌&&◌, ◌||◌, eqb-true, Option, Some, None, is_some, inl, true≢false, length-append, append-nil, add-zero}
use Rattle.std.specs.Prelude.{Ok, filter, drop, count_by, option_map, slice_get, find}
use Rattle.std.specs.List.{list_any}
use Rattle.std.specs.Option.{option_map_or}
use Rattle.std.proofs.lemmas.List.Folds.{list_any-append}
use Rattle.std.proofs.lemmas.List.Elements.{filter-append}
use Rattle.t32_base.specs.declared.process.Pid.{Pid}
use Rattle.t32_base.specs.declared.process.ClusterNo.{ClusterNo}
use Rattle.t32_base.specs.Small.{SmallState}
use Rattle.t32_base.specs.declared.letter.Letter.{Letter}
use Rattle.t32_base.specs.declared.letter.BackRec.{BackRec}
use Rattle.sys_text.specs.Valid.{is_system}
use Rattle.bus_msg.specs.declared.entry.What.{What}
use Rattle.bus_msg.specs.declared.entry.What.TheVariants.{Mail, Page, Sync, Fetch, PageIs}
use Rattle.bus_msg.specs.declared.entry.Entry.{Entry}
use Rattle.bus_msg.specs.declared.placed.Placed.{Placed}
use Rattle.bus_msg.specs.Places.{Places, is_cluster, lives_in, same_cluster, same_pid, servers_in, unended_at, ClusterPlace}
use Rattle.bus_msg.specs.PlacedAfter.{after_sync, placed_after, what}
use Rattle.bus_msg.specs.Route.{backup_of, home_of, route, to_clusters}
use Rattle.cert_sched.specs.Legal.{MayStand}
use Rattle.cert_sched.specs.Losses.{capped, is_by_cluster, is_crash_of, least_steps}
use Rattle.cert_sched.specs.Rules.{is_by, is_by_home, is_by_right}
use Rattle.cert_sched.specs.Told.{cluster_lost}
use Rattle.cert_sched.specs.Schedule.{placement}
use Rattle.cert_sched.proofs.LogLaws.{IsLegal-last, placement-snoc}
use Rattle.cert_sched.proofs.UnendedLaws.{sync_keeps, unended_map}
use Rattle.log_laws.specs.births.Unsynced.{unsynced_births, changes_unsynced}
use Rattle.log_laws.proofs.births.Filters.{filter_both}
use Rattle.log_laws.proofs.births.OtherEntries.{others_leave, synced_goes}
use Rattle.page_server.specs.Account.{PagerState}
use Rattle.page_accounts.proofs.Followed.{makes_keeps}
use Rattle.backup_records.specs.Records.{records_after, are_rising}
use Rattle.cluster_core.specs.Absorbing.{goes_to}
use Rattle.cluster_core.specs.Calls.{ReadyFor, with_entry, here_after}
use Rattle.residents.specs.Arriving.{with_page_come}
use Rattle.cluster_core.specs.Follows.{Follows, IsOpen}
use Rattle.cluster_core.specs.Hearing.{FollowsHeard, KnowsEach, KnowsPlaces, concerns, heard_in}
use Rattle.cluster_core.specs.Owed.{owed_after}
use Rattle.cluster_core.specs.Parts.{AllOwn, IsHeldOwn}
use Rattle.cluster_core.specs.Recovered.{left_by, moved_by, with_all_waiting}
use Rattle.residents.specs.Residents.{pids_in}
use Rattle.cluster_core.specs.Serving.{Serves}
use Rattle.cluster_core.specs.View.{ClusterView, with_server}
use Rattle.residents.specs.Held.{Held, Waits, held_of, page_held}
use Rattle.cluster_core.proofs.absorbing.Absorbed.{follows_entry}
use Rattle.cluster_core.proofs.absorbing.Fallen.{plain_left}
use Rattle.cluster_core.proofs.absorbing.Arriving.{comes_here, goes_elsewhere}
use Rattle.cluster_core.proofs.absorbing.Counted.{count_by-snoc, lost_before}
use Rattle.cluster_core.proofs.absorbing.Following.{by_home_of}
use Rattle.cluster_core.proofs.here.Here.{is_among}
use Rattle.residents.proofs.Changing.{pid_same, same_itself}
use Rattle.cluster_core.proofs.losses.Homes.{HomeHere, pids_apart, home_here}
use Rattle.cluster_core.proofs.absorbing.Noting.{named_goes, noted_next}
use Rattle.cluster_core.proofs.heard.Shadow.{alike, queued_back, shadow, shadow_follows}
use Rattle.cluster_core.proofs.heard.Unheard.{all_elsewhere, by_unheard, cut_goes, home_apart, is_elsewhere, page_goes, sync_each}
use Rattle.bus_msg.specs.declared.entry.By.TheVariants.{Bus, Cluster}
use Rattle.page_accounts.specs.Noting.{CountsAfterNote, Makes}
use Rattle.channel_table.specs.Changes.{pids_differ}
use Rattle.bus_msg.specs.declared.entry.By.{By}

-- ---- lists

-- where none of them passes, none of them changes
pub none_come : (pid : Pid) (index : ℕ) (bytes : List ℕ) (here : List (Pid × Held)) → ((p : Pid) (h : Held) → held_of here p ≡ Some h → same_pid p pid ≡ false)
    → with_page_come pid index bytes here ≡ here
none_come pid index bytes [] none = refl
none_come pid index bytes (e ∷ here) none =
    (λ i. cond (first i) (e.0, page_held index bytes e.1) e ∷ none_come pid index bytes here (λ p h there. later p h there (same_pid e.0 p) refl) i)
  where
    first : same_pid e.0 pid ≡ false
    first = none e.0 e.1 (ap (λ b. option_map (λ (x : Pid × Held). x.1) (cond b (Some e) (find (λ (x : Pid × Held). same_pid x.0 e.0) here))) (same_itself e.0))

    later : (p : Pid) (h : Held) → held_of here p ≡ Some h → (b : Bool) → same_pid e.0 p ≡ b → same_pid p pid ≡ false
    later p h there true is = ap (λ q. same_pid q pid) (sym (pid_same e.0 p (eqb-true (e.0).0 p.0 is))) ∙ first
    later p h there false is = none p h (ap (λ b. option_map (λ (x : Pid × Held). x.1) (cond b (Some e) (find (λ (x : Pid × Held). same_pid x.0 p) here))) is ∙ there)

-- one that does not pass is left out at the end
pub without_last : (t : Entry → Bool) (log : List Entry) (e : Entry) → t e ≡ false → filter t (log ++ e ∷ []) ≡ filter t log
without_last t log e fails = filter-append t log (e ∷ []) ∙ ap (λ b. filter t log ++ cond b (e ∷ []) []) fails ∙ append-nil (filter t log)

pub dropped : (n : ℕ) (log : List Entry) (e : Entry) → n ≤ length log → drop n (log ++ e ∷ []) ≡ drop n log ++ e ∷ []
dropped zero log e within = refl
dropped (suc n) [] e within = absurd (omega (arith, within))
dropped (suc n) (x ∷ log) e within = dropped n log e (omega (arith, within))

pub own_upto : (m n : ℕ) (here : List (Pid × Held)) → m ≤ n → AllOwn m here → AllOwn n here
own_upto m n [] order own = tt
own_upto m n (e ∷ here) order own = (one e.1 own.0, own_upto m n here order own.1)
  where
    one : (h : Held) → IsHeldOwn m e.0 h → IsHeldOwn n e.0 h
    one (Waits w) o = record { pid_is = o.pid_is; state = o.state; arrived = omega (arith, o.arrived, order); lacks = o.lacks }
    one _ o = record { pid_is = o.pid_is; arrived = omega (arith, o.arrived, order) }

-- ---- the law

module _ (c : ClusterView) (log : List Entry) (e : Entry) (valid : is_system c.system ≡ true) (now : IsOpen MayStand c.system log) (next : IsOpen MayStand c.system (log ++ e ∷ []))
    (away : goes_to e.dests c.number ≡ false) (f : FollowsHeard c.system log c) where
  abbrev k : ClusterNo
  k = c.number

  abbrev places : Places
  places = placement c.system log

  abbrev later : List Entry
  later = log ++ e ∷ []

  pub may : MayStand c.system log e
  may = IsLegal-last MayStand c.system log e next.0

  pub elsewhere : goes_to (route places (what e)) k ≡ false
  elsewhere = ap (λ dests. goes_to dests k) (sym ((may.stands).placed).1) ∙ away

  -- what holds of each kind holds of this one
  pub of_it : (P : What → Type 0) → ((at : ℕ) (letter : Letter) → P (Mail at letter)) → ((pid : Pid) (at index : ℕ) (bytes : List ℕ) → P (Page pid at index bytes))
      → ((pid : Pid) (small : SmallState) (read : List ℕ) (took : Option ℕ) → P (Sync pid small read took))
      → ((pid : Pid) (index : ℕ) → P (Fetch pid index)) → ((pid : Pid) (index : ℕ) (bytes : List ℕ) → P (PageIs pid index bytes)) → P (what e)
  of_it P mail page cut fetch come = by_unheard P mail page cut fetch come places k f.lives (what e) elsewhere

  pub no_loss : is_crash_of k (what e) ≡ false
  no_loss = of_it (λ w. is_crash_of k w ≡ false) (λ at letter. refl) (λ pid at index bytes. refl) (λ pid small read took. refl) (λ pid index. refl) (λ pid index bytes. refl)

  no_cluster_lost : cluster_lost (what e) ≡ None
  no_cluster_lost = of_it (λ w. cluster_lost w ≡ None) (λ at letter. refl) (λ pid at index bytes. refl) (λ pid small read took. refl) (λ pid index. refl) (λ pid index bytes. refl)

  pub differ : pids_differ places.placed ≡ true
  differ = pids_apart c.system log valid now.0

  pub of_kind : Follows c.system log (shadow log c)
  of_kind = shadow_follows c log valid now.0 f

  -- ---- what is here

  pub home_of_it : (p : Pid) (h : Held) → held_of c.here p ≡ Some h → HomeHere places p k
  home_of_it p h there = home_here places k (pids_in c.here) p differ (f.processes).each_once (is_among c.here p h there)

  pub none_moved : (recs : List BackRec) → moved_by places k (what e) recs ≡ []
  none_moved recs = of_it (λ w. moved_by places k w recs ≡ []) (λ at letter. refl) (λ pid at index bytes. refl) (λ pid small read took. refl) (λ pid index. refl) (λ pid index bytes. refl)

  pub all_left : (recs : List BackRec) → left_by places k (what e) recs ≡ recs
  all_left recs = of_it (λ w. left_by places k w recs ≡ recs) (λ at letter. refl) (λ pid at index bytes. refl) (λ pid small read took. refl) (λ pid index. refl) (λ pid index bytes. refl)

  pub owed_stays : (owed : List ℕ) → owed_after k places (what e) owed ≡ owed
  owed_stays owed = of_it (λ w. owed_after k places w owed ≡ owed) (λ at letter. refl) (λ pid at index bytes. refl) (λ pid small read took. refl) (λ pid index. refl) (λ pid index bytes. refl)

  -- ---- the placement

  pub at_later : placement c.system later ≡ placed_after places (what e)
  at_later = placement-snoc c.system log e

  pub same_clusters : (placed_after places (what e)).clusters ≡ places.clusters
  same_clusters = of_it (λ w. (placed_after places w).clusters ≡ places.clusters) (λ at letter. refl) (λ pid at index bytes. refl) (λ pid small read took. refl) (λ pid index. refl)
      (λ pid index bytes. refl)

  pub same_pager : (placed_after places (what e)).pager ≡ places.pager
  same_pager = of_it (λ w. (placed_after places w).pager ≡ places.pager) (λ at letter. refl) (λ pid at index bytes. refl) (λ pid small read took. refl) (λ pid index. refl) (λ pid index bytes. refl)

  -- it has not ended
  cut_found : (pid : Pid) (small : SmallState) (read : List ℕ) (took : Option ℕ) → what e ≡ Sync pid small read took → (q : Placed) × (unended_at places pid ≡ Some q)
  cut_found pid small read took is = by_placed (unended_at places pid) refl
    where
      right : is_by_home places (e.post).by (Some pid) ≡ true
      right = ap (is_by_right places (e.post).by) (sym is) ∙ (may.stands).by_right

      nobody : (by : By) → is_by by None ≡ true → ⊥
      nobody (Cluster j) sent = true≢false (sym sent)
      nobody Bus sent = true≢false (sym sent)

      by_placed : (o : Option Placed) → unended_at places pid ≡ o → (q : Placed) × (unended_at places pid ≡ Some q)
      by_placed None found = absurd (nobody (e.post).by (ap (λ o. is_by (e.post).by (option_map (λ (q : Placed). q.home) o)) (sym found) ∙ by_home_of places (e.post).by pid right))
      by_placed (Some q) found = (q, found)

  -- ---- the children that never synchronised

  -- an entry that changes no place and none of these births leaves those that concern the cluster
  pub births_left : {w : What} → what e ≡ w → placed_after places w ≡ places → changes_unsynced w ≡ false
      → filter (concerns places k) (unsynced_births c.system log) ≡ filter (concerns (placement c.system later) k) (unsynced_births c.system later)
  births_left {w} is same none =
      (λ i. filter (concerns (sym same i) k) (unsynced_births c.system log)) ∙ (λ i. filter (concerns (placed_after places (sym is i)) k) (unsynced_births c.system log))
      ∙ (λ i. filter (concerns (sym at_later i) k) (sym (others_leave c.system log e (ap changes_unsynced is ∙ none)) i))

  -- ---- what is kept as a page server

  to_servers : is_some c.server ≡ true → (front : List ClusterNo) → goes_to (to_clusters places (front ++ servers_in places)) k ≡ true
  to_servers some front =
      named_goes places k (front ++ servers_in places) f.lives (list_any-append (λ j. same_cluster j k) front (servers_in places)
      ∙ last_of_either (list_any (λ j. same_cluster j k) front) (f.server some))
    where
      last_of_either : (x : Bool) {y : Bool} → y ≡ true → (x || y) ≡ true
      last_of_either true is = refl
      last_of_either false is = is

  pub serves : (server : Option PagerState) → c.server ≡ server → Serves places e server server
  serves None is = refl
  serves (Some s) is =
      of_it (λ w. what e ≡ w → Serves places e (Some s) (Some s))
      (λ at letter told. record {
        keeps = λ system earlier same keeps. makes_keeps system earlier places e s s same (subst (λ w. Makes places w s s) (sym told) (record { accounts = λ p. refl; fetches = refl })) keeps;
        counts = subst (λ w. CountsAfterNote w s.counts s.counts (Ok tt)) (sym told) refl;
      })
      (λ pid at index bytes told. absurd (true≢false (sym (to_servers some []) ∙ ap (λ w. goes_to (route places w) k) (sym told) ∙ elsewhere)))
      (λ pid small read took told. absurd (true≢false (sym (to_servers some (backup_of places pid)) ∙ ap (λ w. goes_to (route places w) k) (sym told) ∙ elsewhere)))
      (λ pid index told. absurd (true≢false (sym (to_servers some []) ∙ ap (λ w. goes_to (route places w) k) (sym told) ∙ elsewhere)))
      (λ pid index bytes told. absurd (true≢false (sym (to_servers some (home_of places pid)) ∙ ap (λ w. goes_to (route places w) k) (sym told) ∙ elsewhere))) refl
    where
      some : is_some c.server ≡ true
      some = ap is_some is

  -- ---- the whole

  -- ---- an entry of another

  module _ (foreign : is_by_cluster c.number e ≡ false) where
    ready : ReadyFor e (shadow log c)
    ready = record { log = log; open_log = now; open_next = next; ready = inl (of_kind, foreign, no_loss) }

    recs_stay : records_after c.number (what e) c.records ≡ c.records
    recs_stay = noted_next (shadow log c) e valid ready away

    here_stays : here_after (what e) c.here ≡ c.here
    here_stays =
        of_it (λ w. what e ≡ w → here_after w c.here ≡ c.here)
        (λ at letter is. ap (λ w. here_after w c.here) (sym is) ∙ goes_elsewhere k e at letter c.here is (comes_here (shadow log c) e valid ready) away)
        (λ pid at index bytes is. refl) (λ pid small read took is. refl) (λ pid index is. refl)
        (λ pid index bytes is. none_come pid index bytes c.here (λ p h there. apart_from pid index bytes is p h there (same_pid p pid) refl)) refl
      where
        apart_from : (pid : Pid) (index : ℕ) (bytes : List ℕ) → what e ≡ PageIs pid index bytes → (p : Pid) (h : Held) → held_of c.here p ≡ Some h → (b : Bool) → same_pid p pid ≡ b → b ≡ false
        apart_from pid index bytes is p h there true same =
            let home : HomeHere places pid k = subst (λ q. HomeHere places q k) (pid_same p pid (eqb-true p.0 pid.0 same)) (home_of_it p h there) in
            absurd (true≢false (sym (page_goes places k pid index bytes f.lives home) ∙ ap (λ w. goes_to (route places w) k) (sym is) ∙ elsewhere))
        apart_from pid index bytes is p h there false same = refl

    -- who synchronises unheard is neither at home here nor has its backup here
    cut_elsewhere : (pid : Pid) (small : SmallState) (read : List ℕ) (took : Option ℕ) → what e ≡ Sync pid small read took → (q : Placed) → unended_at places pid ≡ Some q → is_elsewhere k q ≡ true
    cut_elsewhere pid small read took is q found = λ i. not (not_home i) && not (not_backup (is_cluster q.backup k) refl i)
      where
        right : is_by_home places (e.post).by (Some pid) ≡ true
        right = ap (is_by_right places (e.post).by) (sym is) ∙ (may.stands).by_right

        sent : is_by (e.post).by (Some q.home) ≡ true
        sent = ap (λ o. is_by (e.post).by (option_map (λ (q : Placed). q.home) o)) (sym found) ∙ by_home_of places (e.post).by pid right

        not_home : same_cluster q.home k ≡ false
        not_home = home_apart k q.home (e.post).by sent foreign

        not_backup : (b : Bool) → is_cluster q.backup k ≡ b → is_cluster q.backup k ≡ false
        not_backup true backup = absurd (true≢false (sym (cut_goes places k pid q small read took f.lives found backup) ∙ ap (λ w. goes_to (route places w) k) (sym is) ∙ elsewhere))
        not_backup false backup = backup

    knows_placed : KnowsEach c.system k (c.places).placed (placed_after places (what e)).placed
    knows_placed =
        of_it (λ w. what e ≡ w → KnowsEach c.system k (c.places).placed (placed_after places w).placed) (λ at letter is. knows) (λ pid at index bytes is. knows)
        (λ pid small read took is.
        let there = cut_found pid small read took is in
        sync_each c.system k pid (c.places).placed places.placed (all_elsewhere k pid there.0 places.placed differ there.1 (cut_elsewhere pid small read took is there.0 there.1)) knows)
        (λ pid index is. knows) (λ pid index bytes is. knows) refl
      where
        knows : KnowsEach c.system k (c.places).placed places.placed
        knows = ((f.log).places).placed

    knows_later : KnowsPlaces c.system k c.places (placement c.system later)
    knows_later = record {
      clusters = ((f.log).places).clusters ∙ sym same_clusters ∙ ap (λ (p : Places). p.clusters) (sym at_later);
      pager = ((f.log).places).pager ∙ sym same_pager ∙ ap (λ (p : Places). p.pager) (sym at_later);
      placed = subst (λ (p : Places). KnowsEach c.system k (c.places).placed p.placed) (sym at_later) knows_placed;
    }

    births_stay : filter (concerns places k) (unsynced_births c.system log) ≡ filter (concerns (placement c.system later) k) (unsynced_births c.system later)
    births_stay =
        of_it (λ w. what e ≡ w → filter (concerns places k) (unsynced_births c.system log) ≡ filter (concerns (placement c.system later) k) (unsynced_births c.system later))
        (λ at letter is. births_left is refl refl) (λ pid at index bytes is. births_left is refl refl) (λ pid small read took is. cut pid small read took is) (λ pid index is. births_left is refl refl)
        (λ pid index bytes is. births_left is refl refl) refl
      where
        cut : (pid : Pid) (small : SmallState) (read : List ℕ) (took : Option ℕ) → what e ≡ Sync pid small read took
            → filter (concerns places k) (unsynced_births c.system log) ≡ filter (concerns (placement c.system later) k) (unsynced_births c.system later)
        cut pid small read took is =
            filter_both (concerns places k) (λ (b : Pid × Pid). not (same_pid b.1 pid)) (concerns (placement c.system later) k) (λ b. by_child b (same_pid b.1 pid) refl) (unsynced_births c.system log)
            ∙ ap (filter (concerns (placement c.system later) k)) (sym (synced_goes c.system log e pid small read took is))
          where
            there : (q : Placed) × (unended_at places pid ≡ Some q)
            there = cut_found pid small read took is

            none_concerned : (q : Placed) → is_elsewhere k q ≡ true → (same_cluster q.home k || is_cluster q.backup k) ≡ false
            none_concerned q = by_two (same_cluster q.home k) (is_cluster q.backup k)
              where
                by_two : (x y : Bool) → (not x && not y) ≡ true → (x || y) ≡ false
                by_two true y h = absurd (true≢false (sym h))
                by_two false true h = absurd (true≢false (sym h))
                by_two false false h = refl

            same_place : (b : Bool) (q : Placed)
                → (same_cluster (cond b (record q { synced = true }) q).home k || is_cluster (cond b (record q { synced = true }) q).backup k) ≡ (same_cluster q.home k || is_cluster q.backup k)
            same_place true q = refl
            same_place false q = refl

            by_option : (o : Option Placed)
                → option_map_or (λ (q : Placed). same_cluster q.home k || is_cluster q.backup k) (option_map (after_sync pid) o) false ≡ option_map_or
                (λ (q : Placed). same_cluster q.home k || is_cluster q.backup k) o false
            by_option None = refl
            by_option (Some q) = same_place (same_pid q.pid pid) q

            stays : (b : Pid × Pid) → concerns (placement c.system later) k b ≡ concerns places k b
            stays b =
                ap (λ ps. concerns ps k b) (at_later ∙ ap (placed_after places) is)
                ∙ ap (λ o. option_map_or (λ (q : Placed). same_cluster q.home k || is_cluster q.backup k) o false)
                (unended_map (after_sync pid) (sync_keeps pid) places (placed_after places (Sync pid small read took)) refl b.1)
                ∙ by_option (unended_at places b.1)

            by_child : (b : Pid × Pid) (x : Bool) → same_pid b.1 pid ≡ x → concerns places k b ≡ (not (same_pid b.1 pid) && concerns (placement c.system later) k b)
            by_child b true same =
                ap (λ p. option_map_or (λ (q : Placed). same_cluster q.home k || is_cluster q.backup k) (unended_at places p) false) (pid_same b.1 pid (eqb-true (b.1).0 pid.0 same))
                ∙ ap (λ o. option_map_or (λ (q : Placed). same_cluster q.home k || is_cluster q.backup k) o false) there.1
                ∙ none_concerned there.0 (cut_elsewhere pid small read took is there.0 there.1) ∙ ap (λ x. not x && concerns (placement c.system later) k b) (sym same)
            by_child b false same = sym (stays b) ∙ ap (λ x. not x && concerns (placement c.system later) k b) (sym same)

    abbrev taken : ClusterView
    taken = with_server c.server (with_entry (shadow log c) e)

    goes_on : Follows c.system later taken
    goes_on =
        follows_entry (shadow log c) e c.server valid (own_upto c.cursor (length log) c.here (f.log).within f.own) (ap are_rising (none_moved _)) (serves c.server refl) (plain_left places (what e) c.queue no_cluster_lost f.plain) log now next
        (inl (of_kind, foreign, no_loss))

    here_is : taken.here ≡ c.here
    here_is = (λ i. with_all_waiting (none_moved (records_after c.number (what e) c.records) i) (here_after (what e) c.here)) ∙ here_stays

    recs_are : taken.records ≡ c.records
    recs_are = all_left (records_after c.number (what e) c.records) ∙ recs_stay

    as_before : taken ≡ alike c taken.cursor taken.places taken.family taken.steps
    as_before = λ i. record c { cursor = taken.cursor; places = taken.places; here = here_is i; records = recs_are i; family = taken.family; owed = owed_stays c.owed i; steps = taken.steps }

    still : Follows c.system later (alike c taken.cursor taken.places taken.family taken.steps)
    still = subst (Follows c.system later) as_before goes_on

    unsent : count_by (is_by_cluster k) later ≡ count_by (is_by_cluster k) log
    unsent = count_by-snoc (is_by_cluster k) log e ∙ ap (λ b. count_by (is_by_cluster k) log + cond b 1 0) foreign ∙ add-zero _

    as_many : least_steps (heard_in k later) later k ≡ least_steps (heard_in k log) log k
    as_many = (λ i. length (without_last (λ (e : Entry). goes_to e.dests k) log e away i) + unsent i)

    pub passed_over_so : FollowsHeard c.system later c
    passed_over_so = record {
      lives = ap (λ (p : Places). lives_in p k) at_later ∙ ap (λ cs. option_map_or (λ (c : ClusterPlace). c.lives) (slice_get cs k.0) false) same_clusters ∙ f.lives;
      log = record {
        within = omega (arith, (f.log).within, length-append log (e ∷ []));
        none_left =
            ap (list_any (λ (e : Entry). goes_to e.dests k)) (dropped c.cursor log e (f.log).within) ∙ list_any-append (λ (e : Entry). goes_to e.dests k) (drop c.cursor log) (e ∷ [])
            ∙ (λ i. (f.log).none_left i || (away i || false));
        places = knows_later;
      };
      processes = record { held = (still.processes).held; each_once = (still.processes).each_once };
      queue = record { own = (still.queue).own; legal = (still.queue).legal };
      queued = queued_back c later taken.cursor taken.places taken.family taken.steps still.queued;
      plain = f.plain;
      steps = record { counted = λ kept. subst (λ n. capped (n + cond c.tried 1 0) ≤ c.steps) (sym as_many) ((f.steps).counted (lost_before log e k kept)) };
      limits = f.limits;
      pages = still.pages;
      marks = still.marks;
      records = still.records;
      family = f.family ∙ births_stay;
      owed = still.owed;
      backups = still.backups;
      forks = f.forks;
      accounts = record { keeps = (still.accounts).keeps; there = (still.accounts).there; calls = (still.accounts).calls };
      server = λ some.
          ap (list_any (λ s. same_cluster s k)) (ap servers_in at_later
          ∙ (λ i. filter (λ j. option_map_or (λ (c : ClusterPlace). not c.was_lost) (slice_get (same_clusters i) j.0) false) ((same_pager i).0 ∷ (same_pager i).1 ∷ [])))
          ∙ f.server some;
      disk = f.disk;
      own = f.own;
    }

pub passed_over : (c : ClusterView) (log : List Entry) (e : Entry) → is_system c.system ≡ true → IsOpen MayStand c.system log → IsOpen MayStand c.system (log ++ e ∷ [])
    → goes_to e.dests c.number ≡ false → is_by_cluster c.number e ≡ false → FollowsHeard c.system log c
    → FollowsHeard c.system (log ++ e ∷ []) c
passed_over c log e valid now next away foreign f = passed_over_so c log e valid now next away f foreign
