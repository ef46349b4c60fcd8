-- What a cluster has queued of pages, a fetch or an answer, may still be sent after any entry of another.
use Rattle.std.proofs.Common.{◌≡◌, ℕ, refl, sym, ◌∙◌, ap, subst, List, [], ◌∷◌, ◌++◌, Bool, true, false, cond, not, ◌&&◌, ◌||◌, eqb, eqb-true, eq-eqb, Option, Some, None, is_some, true≢false}
use Rattle.std.specs.Prelude.{filter, option_map, slice_get}
use Rattle.std.specs.Option.{option_map_or}
use Rattle.std.proofs.lemmas.Bool.{and_parts}
use Rattle.t32_base.specs.declared.process.Pid.{Pid}
use Rattle.t32_base.specs.declared.process.ClusterNo.{ClusterNo}
use Rattle.sys_text.specs.declared.system.System.{System}
use Rattle.sys_text.specs.Valid.{is_system}
use Rattle.plain_kernel.specs.Kernel.{Kernel}
use Rattle.bus_msg.specs.declared.entry.What.TheVariants.{Fetch, PageIs, Crash}
use Rattle.bus_msg.specs.declared.entry.Cause.{Cause}
use Rattle.bus_msg.specs.declared.entry.By.{By}
use Rattle.bus_msg.specs.declared.entry.By.TheVariants.{Cluster, Bus}
use Rattle.bus_msg.specs.declared.entry.Entry.{Entry}
use Rattle.bus_msg.specs.declared.entry.Post.{Post}
use Rattle.bus_msg.specs.declared.placed.Placed.{Placed}
use Rattle.bus_msg.specs.Places.{ClusterPlace, Places, lives_in, never_lost, placed_at, same_cluster, same_pid, servers_in, unended_at}
use Rattle.bus_msg.specs.PlacedAfter.{after_loss, changed_at, lost_cluster, placed_after, what}
use Rattle.channel_table.specs.Changes.{pids_differ}
use Rattle.cert_sched.specs.Account.{is_exit_of}
use Rattle.cert_sched.specs.Appended.{entry_of}
use Rattle.cert_sched.specs.Legal.{MayStand}
use Rattle.cluster_core.specs.Sent.{SentMayStand}
use Rattle.cert_sched.specs.Deeds.{is_cut}
use Rattle.cert_sched.specs.Kinds.{FetchHolds, KindHolds, PageIsHolds}
use Rattle.cert_sched.specs.Losses.{is_by_cluster, is_crash_of, is_from}
use Rattle.cert_sched.specs.Moved.{is_fetch, is_page_is, waiting_fetches}
use Rattle.cert_sched.specs.Parts.{first_of}
use Rattle.cert_sched.specs.Rules.{awaits_pages, has_its_pages, holds_of, home_at, is_by, is_by_home, is_by_right, is_new_page, is_limited, is_within_limits}
use Rattle.cert_sched.specs.Schedule.{items_of, placement, plain_after}
use Rattle.cert_sched.specs.Steps.{process_of}
use Rattle.cert_sched.specs.Told.{cluster_lost, is_moved}
use Rattle.cert_sched.proofs.FamilyLaws.{exit_elsewhere}
use Rattle.cert_sched.proofs.FreshLaws.{kept_elsewhere, put_here}
use Rattle.cert_sched.proofs.LogLaws.{IsLegal-last, no_items, placement-snoc}
use Rattle.cert_sched.proofs.ThereLaws.{plain_there}
use Rattle.cert_sched.proofs.UnendedLaws.{loss_keeps, unended_map}
use Rattle.log_laws.proofs.records.Standing.{all_stand}
use Rattle.log_laws.specs.pages.Next.{ends_wait_next, moves_next}
use Rattle.log_laws.specs.pages.Waited.{is_waited}
use Rattle.log_laws.proofs.pages.Keeping.{answer_kept, fetch_kept}
use Rattle.log_laws.proofs.pages.OneEntry.{turned}
use Rattle.log_laws.proofs.pages.StartPages.{cut_has_pages}
use Rattle.log_laws.proofs.pages.Waiting.{first_waited, waited_has_not}
use Rattle.cluster_core.specs.Follows.{IsOpen}
use Rattle.cluster_core.specs.Queue.{falls, is_moved_from}
use Rattle.cluster_core.proofs.absorbing.ByKind.{by_page, is_of_page}
use Rattle.cluster_core.proofs.paging.HasPages.{home_of_sender}
use Rattle.cluster_core.proofs.losses.Homes.{HomeHere, pids_apart, home_lives}
use Rattle.cluster_core.proofs.losses.HomesMoved.{stays_home}
use Rattle.cert_sched.proofs.BirthClusters.{birth_servers}
use Rattle.cluster_core.proofs.births.BirthHomes.{birth_home}
use Rattle.cluster_core.proofs.losses.NotMoved.{by_each, home_not_moved, placed_not_moved}
use Rattle.cluster_core.proofs.losses.RenewedHomes.{home_renewed_here}
use Rattle.cluster_core.proofs.losses.Asked.{servers_returned}
use Rattle.cluster_core.proofs.syncs.SyncedHomes.{home_synced}

-- ---- who sends

-- what is by a cluster is from it
from_one : (k : ClusterNo) (by : By) (h : ClusterNo) → is_by by (Some h) ≡ true → same_cluster h k ≡ true → is_from k by ≡ true
from_one k (Cluster j) h is same = ap (λ n. eqb n k.0) (eqb-true j.0 h.0 is) ∙ same
from_one k Bus h is same = absurd (true≢false (sym is))

-- two that are by one are from one
same_sender : (k : ClusterNo) (by other : By) (o : Option ClusterNo) → is_by by o ≡ true → is_by other o ≡ true → is_from k by ≡ true → is_from k other ≡ true
same_sender k (Cluster j) other None is at from = absurd (true≢false (sym is))
same_sender k (Cluster j) other (Some h) is at from = from_one k other h at (ap (λ n. eqb n k.0) (sym (eqb-true j.0 h.0 is)) ∙ from)
same_sender k Bus other o is at from = absurd (true≢false (sym from))

-- a cluster that lives sends what a process does that is at home there
sent_home : (places : Places) (k : ClusterNo) (by : By) (p : Pid) → is_from k by ≡ true → lives_in places k ≡ true → HomeHere places p k → is_by_home places by (Some p) ≡ true
sent_home places k Bus p from lives here = absurd (true≢false (sym from))
sent_home places k (Cluster j) p from lives here =
    let same : k ≡ j = λ i. record { 0 = sym (eqb-true j.0 k.0 from) i } in
    let home : home_at places p ≡ Some (here.placed).home = ap (option_map (λ (q : Placed). q.home)) here.found in
    (λ i. (sym (ap (lives_in places) same) ∙ lives) i && is_by (Cluster j) (home i)) ∙ eq-eqb j.0 ((here.placed).home).0 (eqb-true j.0 k.0 from ∙ sym (eqb-true ((here.placed).home).0 k.0 here.home))

-- ---- the first page server

-- the first that passes is the first still, where it passes and no other begins to
first_stays : (t u : ClusterNo → Bool) (by : By) → ((x : ClusterNo) → t x ≡ false → u x ≡ false) → ((x : ClusterNo) → is_by by (Some x) ≡ true → t x ≡ true → u x ≡ true) → (xs : List ClusterNo)
    → is_by by (first_of (filter t xs)) ≡ true → is_by by (first_of (filter u xs)) ≡ true
first_stays t u by fewer goes [] is = is
first_stays t u by fewer goes (x ∷ xs) is = by_test (t x) refl is (first_stays t u by fewer goes xs)
  where
    by_test : (b : Bool) → t x ≡ b → is_by by (first_of (cond b (x ∷ filter t xs) (filter t xs))) ≡ true → (is_by by (first_of (filter t xs)) ≡ true → is_by by (first_of (filter u xs)) ≡ true)
        → is_by by (first_of (cond (u x) (x ∷ filter u xs) (filter u xs))) ≡ true
    by_test true passes is more = ap (λ b. is_by by (first_of (cond b (x ∷ filter u xs) (filter u xs)))) (goes x is passes) ∙ is
    by_test false fails is more = ap (λ b. is_by by (first_of (cond b (x ∷ filter u xs) (filter u xs)))) (fewer x fails) ∙ more is

abbrev unlost : Option ClusterPlace → Bool
unlost o = option_map_or (λ (c : ClusterPlace). not c.was_lost) o false

-- a loss brings back no cluster,
lost_still : (clusters : List ClusterPlace) (j n : ℕ) → unlost (slice_get clusters n) ≡ false → unlost (slice_get (changed_at j lost_cluster (slice_get clusters j) clusters) n) ≡ false
lost_still clusters j n lost = by_cluster (slice_get clusters j) refl
  where
    by_number : (c : ClusterPlace) → slice_get clusters j ≡ Some c → (b : Bool) → eqb n j ≡ b → unlost (slice_get (changed_at j lost_cluster (Some c) clusters) n) ≡ false
    by_number c there true same = ap (λ m. unlost (slice_get (changed_at j lost_cluster (Some c) clusters) m)) (eqb-true n j same) ∙ ap unlost (put_here clusters j (lost_cluster c) c there)
    by_number c there false apart = ap unlost (kept_elsewhere clusters j n (lost_cluster c) (λ e. true≢false (sym (eq-eqb n j e) ∙ apart))) ∙ lost

    by_cluster : (o : Option ClusterPlace) → slice_get clusters j ≡ o → unlost (slice_get (changed_at j lost_cluster o clusters) n) ≡ false
    by_cluster None there = lost
    by_cluster (Some c) there = by_number c there (eqb n j) refl

-- and leaves every other as it was
unlost_still : (clusters : List ClusterPlace) (j n : ℕ) → eqb n j ≡ false → unlost (slice_get clusters n) ≡ true → unlost (slice_get (changed_at j lost_cluster (slice_get clusters j) clusters) n) ≡ true
unlost_still clusters j n apart never = by_cluster (slice_get clusters j)
  where
    by_cluster : (o : Option ClusterPlace) → unlost (slice_get (changed_at j lost_cluster o clusters) n) ≡ true
    by_cluster None = never
    by_cluster (Some c) = ap unlost (kept_elsewhere clusters j n (lost_cluster c) (λ e. true≢false (sym (eq-eqb n j e) ∙ apart))) ∙ never

-- so the first page server is still the first after the loss of another
server_after_loss : (places : Places) (k lost : ClusterNo) (cause : Cause) (by : By) → is_from k by ≡ true → same_cluster lost k ≡ false → is_by by (first_of (servers_in places)) ≡ true → is_by by (first_of (servers_in (placed_after places (Crash lost cause)))) ≡ true
server_after_loss places k lost cause by from apart =
    first_stays (never_lost places) (never_lost (placed_after places (Crash lost cause))) by (λ x. lost_still places.clusters lost.0 x.0) (λ x is. unlost_still places.clusters lost.0 x.0 (other by x is from)) ((places.pager).0 ∷ (places.pager).1 ∷ [])
  where
    other : (by : By) (x : ClusterNo) → is_by by (Some x) ≡ true → is_from k by ≡ true → eqb x.0 lost.0 ≡ false
    other (Cluster j) x is from = ap (λ n. eqb n lost.0) (sym (eqb-true j.0 x.0 is) ∙ eqb-true j.0 k.0 from) ∙ turned k.0 lost.0 ∙ apart
    other Bus x is from = absurd (true≢false (sym is))

-- ---- an entry of another cluster

module _ (system : System) (valid : is_system system ≡ true) (log : List Entry) (e : Entry) (k : ClusterNo) (now : IsOpen MayStand system log) (next : IsOpen MayStand system (log ++ e ∷ []))
    (foreign : is_by_cluster k e ≡ false) (away : is_crash_of k (what e) ≡ false) where
  abbrev later : List Entry
  later = log ++ e ∷ []

  abbrev places : Places
  places = placement system log

  may_e : MayStand system log e
  may_e = IsLegal-last MayStand system log e next.0

  differ : pids_differ places.placed ≡ true
  differ = pids_apart system log valid now.0

  -- it does nothing of a process that is at home here
  not_its : (p r : Pid) → HomeHere places p k → is_by_home places (e.post).by (Some r) ≡ true → (b : Bool) → same_pid r p ≡ b → b ≡ false
  not_its p r here right true same =
      let one : r ≡ p = λ i. record { 0 = eqb-true r.0 p.0 same i } in
      let sends : is_by (e.post).by (Some (here.placed).home) ≡ true = sym (ap (λ o. is_by (e.post).by (option_map (λ (q : Placed). q.home) o)) (ap (unended_at places) one ∙ here.found)) ∙ by_home right in
      absurd (true≢false (sym (from_one k (e.post).by (here.placed).home sends here.home) ∙ foreign))
    where
      by_home : is_by_home places (e.post).by (Some r) ≡ true → is_by (e.post).by (home_at places r) ≡ true
      by_home right = (and_parts _ (is_by (e.post).by (home_at places r)) right).1
  not_its p r here right false same = refl

  -- who is at home here is so after it
  home_after : (p : Pid) → HomeHere places p k → HomeHere (placement system later) p k
  home_after p here =
      subst (λ places. HomeHere places p k) (sym (placement-snoc system log e))
      (by_each (λ w. is_by_right places (e.post).by w ≡ true → is_crash_of k w ≡ false → HomeHere (placed_after places w) p k)
      (λ at letter right away. here)
      (λ parent at child end right away. birth_home places child p k (placed_at places parent) here)
      (λ r at end right away. record { placed = here.placed; found = exit_elsewhere places r p at end (turned p.0 r.0 ∙ not_its p r here right (same_pid r p) refl) ∙ here.found; home = here.home })
      (λ r index right away. here) (λ r index bytes right away. here)
      (λ lost cause right away. record {
        placed = after_loss lost here.placed;
        found = unended_map (after_loss lost) (loss_keeps lost) places (placed_after places (Crash lost cause)) refl p ∙ ap (option_map (after_loss lost)) here.found;
        home = ap (λ h. same_cluster h k) (stays_home lost here.placed (ap (λ n. eqb n lost.0) (eqb-true ((here.placed).home).0 k.0 here.home) ∙ turned k.0 lost.0 ∙ away)) ∙ here.home;
      })
      (λ r at index bytes right away. here) (λ r small read took right away. home_synced places r p k small read took here) (λ to fresh recs right away. home_renewed_here places p k to fresh recs here)
      (λ j right away. record { placed = here.placed; found = here.found; home = here.home }) (λ rests right away. here) (λ right away. here) (what e) (may_e.stands).by_right away)

  -- it asks for no page of such a process
  no_fetch : (p : Pid) (i : ℕ) → HomeHere places p k → is_fetch p i (what e) ≡ false
  no_fetch p i here =
      by_each (λ w. is_by_right places (e.post).by w ≡ true → is_fetch p i w ≡ false)
      (λ at letter right. refl) (λ parent at child end right. refl) (λ r at end right. refl) (λ r index right. ap (λ b. b && eqb index i) (not_its p r here right (same_pid r p) refl)) (λ r index bytes right. refl) (λ lost cause right. refl)
      (λ r at index bytes right. refl) (λ r small read took right. refl) (λ to fresh recs right. refl) (λ j right. refl) (λ rests right. refl) (λ right. refl) (what e) (may_e.stands).by_right

  -- the first page server stays
  server_after : (by : By) → is_from k by ≡ true → is_by by (first_of (servers_in places)) ≡ true → is_by by (first_of (servers_in (placement system later))) ≡ true
  server_after by from is =
      ap (λ places. is_by by (first_of (servers_in places))) (placement-snoc system log e)
      ∙ by_each (λ w. is_crash_of k w ≡ false → is_by by (first_of (servers_in (placed_after places w))) ≡ true)
      (λ at letter away. is) (λ parent at child end away. ap (λ servers. is_by by (first_of servers)) (birth_servers places child (placed_at places parent)) ∙ is) (λ r at end away. is) (λ r index away. is) (λ r index bytes away. is) (λ lost cause away. server_after_loss places k lost cause by from away is) (λ r at index bytes away. is) (λ r small read took away. is) (λ to fresh recs away. is) (λ j away. ap (λ servers. is_by by (first_of servers)) (servers_returned places j) ∙ is) (λ rests away. is) (λ away. is) (what e) away

  -- where that is this cluster, it is no answer
  no_answer : (by : By) (p : Pid) (i : ℕ) → is_from k by ≡ true → is_by by (first_of (servers_in places)) ≡ true → is_page_is p i (what e) ≡ false
  no_answer by p i from is =
      by_each (λ w. is_by_right places (e.post).by w ≡ true → is_page_is p i w ≡ false)
      (λ at letter right. refl) (λ parent at child end right. refl) (λ r at end right. refl) (λ r index right. refl) (λ r index bytes right. absurd (true≢false (sym (same_sender k by (e.post).by (first_of (servers_in places)) is right from) ∙ foreign)))
      (λ lost cause right. refl) (λ r at index bytes right. refl) (λ r small read took right. refl) (λ to fresh recs right. refl) (λ j right. refl) (λ rests right. refl) (λ right. refl) (what e) (may_e.stands).by_right

  -- it is no exit of a process that lacks a page
  no_exit : (p : Pid) → has_its_pages system log p ≡ false → is_exit_of p (what e) ≡ false
  no_exit p lacks =
      by_each (λ w. holds_of (awaits_pages w) (process_of w) (has_its_pages system log) ≡ true → is_exit_of p w ≡ false)
      (λ at letter has. refl) (λ parent at child end has. refl) (λ r at end has. by_pid r has (same_pid r p) refl) (λ r index has. refl) (λ r index bytes has. refl) (λ lost cause has. refl) (λ r at index bytes has. refl) (λ r small read took has. refl) (λ to fresh recs has. refl) (λ j has. refl) (λ rests has. refl) (λ has. refl) (what e) may_e.pages
    where
      by_pid : (r : Pid) → has_its_pages system log r ≡ true → (b : Bool) → same_pid r p ≡ b → b ≡ false
      by_pid r has true same =
          let one : r ≡ p = λ i. record { 0 = eqb-true r.0 p.0 same i } in
          absurd (true≢false (sym has ∙ ap (has_its_pages system log) one ∙ lacks))
      by_pid r has false same = refl

  -- it cuts no process that lacks a page
  no_cut : (p : Pid) → has_its_pages system log p ≡ false → is_cut p (what e) ≡ false
  no_cut p lacks = by_cut (is_cut p (what e)) refl
    where
      by_cut : (b : Bool) → is_cut p (what e) ≡ b → b ≡ false
      by_cut true cut = absurd (true≢false (sym (cut_has_pages system log e p may_e.pages cut) ∙ lacks))
      by_cut false cut = refl

  -- a wait goes on for which this cluster has the answer, unless its process is moved
  wait_stays : (by : By) (p : Pid) (i : ℕ) → is_from k by ≡ true → is_by by (first_of (servers_in places)) ≡ true → is_waited system log p i ≡ true → moves_next system log e p ≡ false → ends_wait_next system log e p i ≡ false
  wait_stays by p i from is waited stays = λ j. no_answer by p i from is j || no_exit p (waited_has_not system log p i (all_stand system log now.0) waited) j || stays j

  -- a process that it does not move from where it is placed it does not move
  not_moved : (p : Pid) → option_map_or (is_moved_from places p) (cluster_lost (what e)) false ≡ false → moves_next system log e p ≡ false
  not_moved p = by_loss (cluster_lost (what e))
    where
      by_loss : (o : Option ClusterNo) → option_map_or (is_moved_from places p) o false ≡ false → option_map_or (is_moved p places) o false ≡ false
      by_loss None stays = refl
      by_loss (Some lost) stays = placed_not_moved places p lost differ stays

  module _ (post : Post) (from : is_from k post.by ≡ true) (may : SentMayStand system log (entry_of system log post)) where
    applies_later : ((kernel : Kernel) → items_of kernel post.what ≡ []) → is_some (plain_after system (later ++ entry_of system later post ∷ [])) ≡ true
    applies_later none = ap is_some (no_items system later (entry_of system later post) none) ∙ plain_there MayStand (λ system log e may. may.stands) system later next.0

    fetch_stays : (p : Pid) (i : ℕ) → post.what ≡ Fetch p i → SentMayStand system later (entry_of system later post)
    fetch_stays p i is = record {
      stands = record {
        placed = (refl, refl, next.1);
        by_right = ap (is_by_right (placement system later) post.by) is ∙ sent_home (placement system later) k post.by p from (home_lives system later p k valid next.0 next.1 there) there;
        applies = applies_later (λ kernel. ap (items_of kernel) is);
        kind = subst (KindHolds system later (entry_of system later post)) (sym is) (fetch_kept system log e p i may_e.stands (no_fetch p i here) (home_not_moved system log e p k differ here away) holds);
      };
      of_kind = may.of_kind;
      limits = ap (λ w. holds_of (is_limited w) (process_of w) (is_within_limits system later w)) is;
      new_page = ap (is_new_page system later) is;
      pages = ap (λ w. holds_of (awaits_pages w) (process_of w) (has_its_pages system later)) is;
    }
      where
        here : HomeHere places p k
        here = home_of_sender places k post.by p from (sym (ap (is_by_right places post.by) is) ∙ (may.stands).by_right)

        there : HomeHere (placement system later) p k
        there = home_after p here

        holds : FetchHolds system log p i
        holds = subst (KindHolds system log (entry_of system log post)) is (may.stands).kind

    page_is_stays : (p : Pid) (i : ℕ) (bytes : List ℕ) → post.what ≡ PageIs p i bytes → falls places (what e) post.what ≡ false → SentMayStand system later (entry_of system later post)
    page_is_stays p i bytes is unfallen = record {
      stands = record {
        placed = (refl, refl, next.1);
        by_right = ap (is_by_right (placement system later) post.by) is ∙ server_after post.by from server;
        applies = applies_later (λ kernel. ap (items_of kernel) is);
        kind = subst (KindHolds system later (entry_of system later post)) (sym is)
            (answer_kept system log e p i bytes (no_cut p (waited_has_not system log p i (all_stand system log now.0) waited)) (wait_stays post.by p i from server waited (not_moved p (sym (ap (falls places (what e)) is) ∙ unfallen))) holds);
      };
      of_kind = may.of_kind;
      limits = ap (λ w. holds_of (is_limited w) (process_of w) (is_within_limits system later w)) is;
      new_page = ap (is_new_page system later) is;
      pages = ap (λ w. holds_of (awaits_pages w) (process_of w) (has_its_pages system later)) is;
    }
      where
        server : is_by post.by (first_of (servers_in places)) ≡ true
        server = sym (ap (is_by_right places post.by) is) ∙ (may.stands).by_right

        holds : PageIsHolds system log p i bytes
        holds = subst (KindHolds system log (entry_of system log post)) is (may.stands).kind

        waited : is_waited system log p i ≡ true
        waited = first_waited p i (waiting_fetches system log) holds.asked

-- a queued fetch or answer of a cluster may follow after an entry of another, unless it falls
pub page_post_stays : (system : System) → is_system system ≡ true → (log : List Entry) (e : Entry) (k : ClusterNo) (post : Post) → IsOpen MayStand system log → IsOpen MayStand system (log ++ e ∷ []) → is_by_cluster k e ≡ false
    → is_crash_of k (what e) ≡ false → is_from k post.by ≡ true → is_of_page post.what ≡ true → falls (placement system log) (what e) post.what ≡ false → SentMayStand system log (entry_of system log post)
    → SentMayStand system (log ++ e ∷ []) (entry_of system (log ++ e ∷ []) post)
page_post_stays system valid log e k post now next foreign away from of unfallen may =
    by_page (λ w. post.what ≡ w → SentMayStand system (log ++ e ∷ []) (entry_of system (log ++ e ∷ []) post))
    (λ p i is. fetch_stays system valid log e k now next foreign away post from may p i is) (λ p i bytes is. page_is_stays system valid log e k now next foreign away post from may p i bytes is unfallen) post.what of refl
