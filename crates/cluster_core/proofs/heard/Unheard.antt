-- An entry that does not go to a cluster that lives: it is a letter, of a page or of a synchronisation, and changes nothing that the cluster holds.
use Rattle.std.proofs.Common.{◌≡◌, ℕ, refl, sym, ◌∙◌, ap, List, [], ◌∷◌, ◌++◌, map, Bool, true, false, cond, subst, not, ◌&&◌, ◌||◌, eqb, eqb-true, Option, Some, None, inl, inr, true≢false}
use Rattle.std.specs.Prelude.{find}
use Rattle.std.specs.List.{list_all, list_any}
use Rattle.std.specs.Option.{option_map_or}
use Rattle.std.proofs.lemmas.List.Folds.{list_any-append}
use Rattle.t32_base.specs.declared.process.Pid.{Pid}
use Rattle.t32_base.specs.declared.process.ClusterNo.{ClusterNo}
use Rattle.t32_base.specs.Small.{SmallState}
use Rattle.t32_base.specs.declared.letter.Letter.{Letter}
use Rattle.sys_text.specs.declared.system.System.{System}
use Rattle.channel_table.specs.Changes.{pids_differ}
use Rattle.bus_msg.specs.declared.entry.What.{What}
use Rattle.bus_msg.specs.declared.entry.What.TheVariants.{Mail, Page, Sync, Fetch, PageIs, Return}
use Rattle.bus_msg.specs.declared.entry.By.{By}
use Rattle.bus_msg.specs.declared.entry.By.TheVariants.{Cluster, Bus}
use Rattle.bus_msg.specs.declared.placed.Placed.{Placed}
use Rattle.bus_msg.specs.Places.{Places, is_cluster, lives_in, same_cluster, same_pid, servers_in, unended_at}
use Rattle.bus_msg.specs.PlacedAfter.{after_sync}
use Rattle.bus_msg.specs.Route.{backup_of, home_of, route, to_all, to_list}
use Rattle.cert_sched.specs.Losses.{is_from}
use Rattle.cert_sched.specs.Record.{is_root}
use Rattle.cert_sched.specs.Rules.{is_by}
use Rattle.cluster_core.specs.Absorbing.{goes_to}
use Rattle.cluster_core.specs.Hearing.{KnowsEach, KnowsPlaced}
use Rattle.cluster_core.proofs.losses.Homes.{HomeHere}
use Rattle.cluster_core.proofs.absorbing.Noting.{all_hear, named_goes, other_bit}

-- ---- its kind

-- what holds of each kind that may pass a cluster by holds of every entry that does
pub by_unheard : (P : What → Type 0) → ((at : ℕ) (letter : Letter) → P (Mail at letter)) → ((pid : Pid) (at index : ℕ) (bytes : List ℕ) → P (Page pid at index bytes))
    → ((pid : Pid) (small : SmallState) (read : List ℕ) (took : Option ℕ) → P (Sync pid small read took))
    → ((pid : Pid) (index : ℕ) → P (Fetch pid index)) → ((pid : Pid) (index : ℕ) (bytes : List ℕ) → P (PageIs pid index bytes)) → (places : Places) (k : ClusterNo) → lives_in places k ≡ true
    → (w : What) → goes_to (route places w) k ≡ false → P w
by_unheard P mail page cut fetch come places k lives (Mail at letter) away = mail at letter
by_unheard P mail page cut fetch come places k lives (Page pid at index bytes) away = page pid at index bytes
by_unheard P mail page cut fetch come places k lives (Sync pid small read took) away = cut pid small read took
by_unheard P mail page cut fetch come places k lives (Fetch pid index) away = fetch pid index
by_unheard P mail page cut fetch come places k lives (PageIs pid index bytes) away = come pid index bytes
by_unheard P mail page cut fetch come places k lives (Return j) away = absurd (true≢false (sym (other_bit k.0 j.0 (to_all places).clusters (all_hear places k lives)) ∙ away))
by_unheard P mail page cut fetch come places k lives _ away = absurd (true≢false (sym (all_hear places k lives) ∙ away))

-- ---- who is at home, and whose backup is here

first_of_either : (b c : Bool) → b ≡ true → (b || c) ≡ true
first_of_either true c is = refl
first_of_either false c is = absurd (true≢false (sym is))

-- a page for a process at home here goes here
pub page_goes : (places : Places) (k : ClusterNo) (p : Pid) (index : ℕ) (bytes : List ℕ) → lives_in places k ≡ true → HomeHere places p k → goes_to (route places (PageIs p index bytes)) k ≡ true
page_goes places k p index bytes lives home =
    let named : list_any (λ j. same_cluster j k) (home_of places p) ≡ true =
    ap (λ o. list_any (λ j. same_cluster j k) (option_map_or (λ (q : Placed). q.home ∷ []) o [])) home.found ∙ first_of_either (same_cluster (home.placed).home k) false home.home in
    named_goes places k (home_of places p ++ servers_in places) lives (list_any-append (λ j. same_cluster j k) (home_of places p) (servers_in places)
    ∙ first_of_either _ (list_any (λ j. same_cluster j k) (servers_in places)) named)

-- a cut of a process whose backup is here goes here
pub cut_goes : (places : Places) (k : ClusterNo) (p : Pid) (q : Placed) (small : SmallState) (read : List ℕ) (took : Option ℕ) → lives_in places k ≡ true → unended_at places p ≡ Some q
    → is_cluster q.backup k ≡ true → goes_to (route places (Sync p small read took)) k ≡ true
cut_goes places k p q small read took lives found backup =
    named_goes places k (backup_of places p ++ servers_in places) lives (list_any-append (λ j. same_cluster j k) (backup_of places p) (servers_in places)
    ∙ first_of_either _ (list_any (λ j. same_cluster j k) (servers_in places)) (by_backup q.backup refl backup))
  where
    by_backup : (o : Option ClusterNo) → q.backup ≡ o → is_cluster o k ≡ true → list_any (λ j. same_cluster j k) (backup_of places p) ≡ true
    by_backup None is named = absurd (true≢false (sym named))
    by_backup (Some b) is named =
        ap (λ o. list_any (λ j. same_cluster j k) (option_map_or (λ (q : Placed). to_list q.backup) o [])) found
        ∙ ap (λ o. list_any (λ j. same_cluster j k) (to_list o)) is ∙ first_of_either (same_cluster b k) false named

-- who sent an entry is not the home of a process that another cluster has
pub home_apart : (k h : ClusterNo) (by : By) → is_by by (Some h) ≡ true → is_from k by ≡ false → same_cluster h k ≡ false
home_apart k h (Cluster j) sent foreign = ap (λ n. eqb n k.0) (sym (eqb-true j.0 h.0 sent)) ∙ foreign
home_apart k h Bus sent foreign = absurd (true≢false (sym sent))

-- it is neither
abbrev pub is_elsewhere : ClusterNo → Placed → Bool
is_elsewhere k q = not (same_cluster q.home k) && not (is_cluster q.backup k)

-- each process with the pid is so, of which one has not ended
pub all_elsewhere : (k : ClusterNo) (p : Pid) (q : Placed) (qs : List Placed) → pids_differ qs ≡ true → find (λ (q : Placed). same_pid q.pid p && not q.ended) qs ≡ Some q → is_elsewhere k q ≡ true
    → list_all (λ (q : Placed). not (same_pid q.pid p) || is_elsewhere k q) qs ≡ true
all_elsewhere k p q [] differ found elsewhere = refl
all_elsewhere k p q (r ∷ qs) differ found elsewhere = by_tests (same_pid r.pid p) (not r.ended) refl refl found (λ apart at. all_elsewhere k p q qs apart at elsewhere)
  where
    halves : (b c : Bool) → (b && c) ≡ true → (b ≡ true) × (c ≡ true)
    halves true c is = (refl, is)
    halves false c is = absurd (true≢false (sym is))

    negated : (b : Bool) → not b ≡ true → b ≡ false
    negated true is = absurd (true≢false (sym is))
    negated false is = refl

    parts : (not (list_any (λ (s : Placed). same_pid s.pid r.pid) qs) ≡ true) × (pids_differ qs ≡ true)
    parts = halves (not (list_any (λ (s : Placed). same_pid s.pid r.pid) qs)) (pids_differ qs) differ

    -- none of the others has its pid
    no_other : (ss : List Placed) → same_pid r.pid p ≡ true → list_any (λ (s : Placed). same_pid s.pid r.pid) ss ≡ false
        → list_all (λ (s : Placed). not (same_pid s.pid p) || is_elsewhere k s) ss ≡ true
    no_other [] is none = refl
    no_other (s ∷ ss) is none = by_first (same_pid s.pid r.pid) refl none (no_other ss is)
      where
        by_first : (b : Bool) → same_pid s.pid r.pid ≡ b → (b || list_any (λ (s : Placed). same_pid s.pid r.pid) ss) ≡ false
            → (list_any (λ (s : Placed). same_pid s.pid r.pid) ss ≡ false → list_all (λ (s : Placed). not (same_pid s.pid p) || is_elsewhere k s) ss ≡ true)
            → ((not (same_pid s.pid p) || is_elsewhere k s) && list_all (λ (s : Placed). not (same_pid s.pid p) || is_elsewhere k s) ss) ≡ true
        by_first true same none more = absurd (true≢false none)
        by_first false apart none more =
            let other : same_pid s.pid p ≡ false = ap (λ n. eqb (s.pid).0 n) (sym (eqb-true (r.pid).0 p.0 is)) ∙ apart in
            (λ i. (not (other i) || is_elsewhere k s) && more none i)

    -- nor is one of them found by it
    none_found : (ss : List Placed) → same_pid r.pid p ≡ true → list_any (λ (s : Placed). same_pid s.pid r.pid) ss ≡ false → find (λ (q : Placed). same_pid q.pid p && not q.ended) ss ≡ None
    none_found [] is none = refl
    none_found (s ∷ ss) is none = by_first (same_pid s.pid r.pid) refl none (none_found ss is)
      where
        by_first : (b : Bool) → same_pid s.pid r.pid ≡ b → (b || list_any (λ (s : Placed). same_pid s.pid r.pid) ss) ≡ false
            → (list_any (λ (s : Placed). same_pid s.pid r.pid) ss ≡ false → find (λ (q : Placed). same_pid q.pid p && not q.ended) ss ≡ None)
            → cond (same_pid s.pid p && not s.ended) (Some s) (find (λ (q : Placed). same_pid q.pid p && not q.ended) ss) ≡ None
        by_first true same none more = absurd (true≢false none)
        by_first false apart none more =
            let other : same_pid s.pid p ≡ false = ap (λ n. eqb (s.pid).0 n) (sym (eqb-true (r.pid).0 p.0 is)) ∙ apart in
            ap (λ b. cond (b && not s.ended) (Some s) (find (λ (q : Placed). same_pid q.pid p && not q.ended) ss)) other ∙ more none

    by_tests : (b c : Bool) → same_pid r.pid p ≡ b → not r.ended ≡ c → cond (b && c) (Some r) (find (λ (q : Placed). same_pid q.pid p && not q.ended) qs) ≡ Some q
        → (pids_differ qs ≡ true → find (λ (q : Placed). same_pid q.pid p && not q.ended) qs ≡ Some q → list_all (λ (q : Placed). not (same_pid q.pid p) || is_elsewhere k q) qs ≡ true)
        → ((not (same_pid r.pid p) || is_elsewhere k r) && list_all (λ (q : Placed). not (same_pid q.pid p) || is_elsewhere k q) qs) ≡ true
    by_tests true true is unended at more =
        let me : r ≡ q = cc in
        (λ i. (not (is i) || (ap (is_elsewhere k) me ∙ elsewhere) i) && no_other qs is (negated _ parts.0) i)
    by_tests true false is ended at more = let none : None ≡ Some q = sym (none_found qs is (negated _ parts.0)) ∙ at in cc
    by_tests false true is unended at more = λ i. (not (is i) || is_elsewhere k r) && more parts.1 at i
    by_tests false false is unended at more = λ i. (not (is i) || is_elsewhere k r) && more parts.1 at i

-- ---- the placement

-- what is known stays known where a process synchronises of which the mark may be missed
sync_one : (system : System) (k : ClusterNo) (p : Pid) (known q : Placed) → (not (same_pid q.pid p) || is_elsewhere k q) ≡ true → KnowsPlaced system k known q
    → KnowsPlaced system k known (after_sync p q)
sync_one system k p known q elsewhere knows = by_pid (same_pid q.pid p) refl elsewhere
  where
    or_true : (b : Bool) → (b || true) ≡ true
    or_true true = refl
    or_true false = refl

    missed : is_elsewhere k q ≡ true → known ≡ record q { synced = false } → KnowsPlaced system k known (record q { synced = true })
    missed is same = inr (ap (λ b. is_root system q.pid || b) is ∙ or_true _, same)

    by_mark : (b : Bool) → q.synced ≡ b → is_elsewhere k q ≡ true → known ≡ q → KnowsPlaced system k known (record q { synced = true })
    by_mark true marked is same = inl (same ∙ ap (λ b. record q { synced = b }) marked)
    by_mark false unmarked is same = missed is (same ∙ ap (λ b. record q { synced = b }) unmarked)

    by_known : is_elsewhere k q ≡ true → KnowsPlaced system k known q → KnowsPlaced system k known (record q { synced = true })
    by_known is (inl same) = by_mark q.synced refl is same
    by_known is (inr m) = missed is m.1

    by_pid : (b : Bool) → same_pid q.pid p ≡ b → (not b || is_elsewhere k q) ≡ true → KnowsPlaced system k known (cond (same_pid q.pid p) (record q { synced = true }) q)
    by_pid true is away = subst (λ b. KnowsPlaced system k known (cond b (record q { synced = true }) q)) (sym is) (by_known away knows)
    by_pid false is away = subst (λ b. KnowsPlaced system k known (cond b (record q { synced = true }) q)) (sym is) knows

pub sync_each : (system : System) (k : ClusterNo) (p : Pid) (known qs : List Placed) → list_all (λ (q : Placed). not (same_pid q.pid p) || is_elsewhere k q) qs ≡ true → KnowsEach system k known qs
    → KnowsEach system k known (map (after_sync p) qs)
sync_each system k p [] [] elsewhere knows = tt
sync_each system k p [] (q ∷ qs) elsewhere knows = absurd knows
sync_each system k p (r ∷ known) [] elsewhere knows = absurd knows
sync_each system k p (r ∷ known) (q ∷ qs) elsewhere knows =
    let parts = halves (not (same_pid q.pid p) || is_elsewhere k q) (list_all (λ (q : Placed). not (same_pid q.pid p) || is_elsewhere k q) qs) elsewhere in
    (sync_one system k p r q parts.0 knows.0, sync_each system k p known qs parts.1 knows.1)
  where
    halves : (b c : Bool) → (b && c) ≡ true → (b ≡ true) × (c ≡ true)
    halves true c is = (refl, is)
    halves false c is = absurd (true≢false (sym is))
