-- The processes at home in the clusters that live, one cluster after another, are those that have not ended.
use Rattle.std.proofs.Common.{◌≡◌, ℕ, zero, suc, ◌+◌, ◌<◌, refl, sym, ◌∙◌, ap, arith, List, [], ◌∷◌, ◌++◌, map, length, Bool, true, false, cond, not, ◌&&◌, ◌||◌, eqb, eqb-true, eq-eqb, ltb, Option, Some, None, is_some, is_none, true≢false}
use Rattle.std.specs.Prelude.{filter, find, slice_get}
use Rattle.std.specs.List.{list_any, list_all, flat_map, range_with_len}
use Rattle.std.specs.Option.{option_map_or}
use Rattle.std.proofs.lemmas.List.{map-append}
use Rattle.std.proofs.lemmas.List.Folds.{list_all-append}
use Rattle.std.proofs.lemmas.List.FromFn.{length-map-range_with_len}
use Rattle.std.proofs.lemmas.Option.{slice_get_within}
use Rattle.std.proofs.lemmas.Bool.Decides.{nat_tests}
use Rattle.std.proofs.lemmas.Bool.{and_parts, and_from}
use Rattle.t32_base.specs.declared.process.Pid.{Pid}
use Rattle.t32_base.specs.declared.process.ClusterNo.{ClusterNo}
use Rattle.sys_text.specs.declared.system.System.{System}
use Rattle.sys_text.specs.Valid.{is_system}
use Rattle.sys_text.specs.Boot.{roots_of}
use Rattle.bus_msg.specs.declared.entry.Entry.{Entry}
use Rattle.bus_msg.specs.declared.placed.Placed.{Placed}
use Rattle.bus_msg.specs.Places.{ClusterPlace, Places, boot_cluster, cluster_no, same_pid, same_cluster, is_at_home, lives_in}
use Rattle.bus_msg.specs.PlacedAfter.{what}
use Rattle.bus_msg.specs.NewBackup.{next_backup, backup_by_mode}
use Rattle.cert_sched.specs.Parts.{rising, put_rising}
use Rattle.cert_sched.specs.Schedule.{placement, placed_root}
use Rattle.cert_sched.specs.Rules.{is_over, owes_no_backup}
use Rattle.cert_sched.specs.Rests.{IsRestOf, is_idle_at, owes_no_backup_at}
use Rattle.cert_sched.specs.Legal.{IsLegalBy, MayStand}
use Rattle.cert_sched.proofs.ListLaws.{list_all-weaker}
use Rattle.cert_sched.proofs.LogLaws.{placement-snoc}
use Rattle.cert_sched.proofs.Induction.{legal_induction}
use Rattle.cert_sched.proofs.RisingLaws.{NoTwo, rising-parts, rising_one_more, with_one}
use Rattle.cert_sched.proofs.PidLaws.{placed_pids}
use Rattle.cert_sched.proofs.FreshLaws.{clusters_stay}
use Rattle.cert_sched.proofs.ThereLaws.{found_among}
use Rattle.cert_sched.proofs.LiveLaws.{homes_live}
use Rattle.cert_sched.proofs.RunsLaws.{rest_pids}
use Rattle.cert_sched.proofs.DoneLaws.{AllRest, stand_apart}

-- ---- the clusters

-- the number of clusters stays
pub clusters-length : (May : System → List Entry → Entry → Type 0) (system : System) (log : List Entry) → IsLegalBy May system log → length (placement system log).clusters ≡ system.clusters
unfolding placement
clusters-length May system log legal =
    legal_induction May system (λ log. length (placement system log).clusters ≡ system.clusters)
    (length-map-range_with_len (boot_cluster (map placed_root (roots_of system))) 0 system.clusters)
    (λ log e same may.
    ap (λ (p : Places). length p.clusters) (placement-snoc system log e)
    ∙ clusters_stay (what e) (placement system log) ∙ same) log legal

pub stand_clusters-length : (system : System) (log : List Entry) → IsLegalBy MayStand system log → length (placement system log).clusters ≡ system.clusters
stand_clusters-length = clusters-length MayStand

-- a cluster that lives is one of them
pub lives_within : (places : Places) (k : ClusterNo) → lives_in places k ≡ true → k.0 < length places.clusters
lives_within places k lives = by_cluster (slice_get places.clusters k.0) refl lives
  where
    by_cluster : (o : Option ClusterPlace) → slice_get places.clusters k.0 ≡ o → option_map_or (λ (c : ClusterPlace). c.lives) o false ≡ true → k.0 < length places.clusters
    by_cluster None is e = absurd (true≢false (sym e))
    by_cluster (Some c) is e = slice_get_within places.clusters k.0 c is

-- ---- the homes

-- each of these processes has ended or has such a home
abbrev pub all_at : (ClusterNo → Bool) → List Placed → Bool
all_at t qs = list_all (λ (q : Placed). q.ended || t q.home) qs

-- what holds of the home of each that is found among those that have not ended holds of each of them
each_found : (t : ClusterNo → Bool) (qs : List Placed) → NoTwo (placed_pids qs) → ((p : Pid) (q : Placed) → find (λ (q : Placed). same_pid q.pid p && not q.ended) qs ≡ Some q → t q.home ≡ true) → all_at t qs ≡ true
each_found t [] two found = refl
each_found t (q ∷ qs) two found = and_from (q.ended || t q.home) (all_at t qs) (here q.ended refl) (each_found t qs two.1 later)
  where
    here : (b : Bool) → q.ended ≡ b → (b || t q.home) ≡ true
    here true is = refl
    here false is =
        found q.pid q (ap (λ b. cond b (Some q) (find (λ (r : Placed). same_pid r.pid q.pid && not r.ended) qs)) (and_from (same_pid q.pid q.pid) (not q.ended) (eq-eqb (q.pid).0 (q.pid).0 refl) (ap not is)))

    later : (p : Pid) (r : Placed) → find (λ (q : Placed). same_pid q.pid p && not q.ended) qs ≡ Some r → t r.home ≡ true
    later p r there = found p r (by_test (same_pid q.pid p && not q.ended) refl)
      where
        by_test : (b : Bool) → (same_pid q.pid p && not q.ended) ≡ b → cond b (Some q) (find (λ (q : Placed). same_pid q.pid p && not q.ended) qs) ≡ Some r
        by_test false is = there
        by_test true is =
            let same : (q.pid).0 ≡ p.0 = eqb-true (q.pid).0 p.0 (and_parts (same_pid q.pid p) (not q.ended) is).0 in
            absurd (true≢false (sym (found_among p qs (ap is_some there)) ∙ ap (λ n. list_any (λ m. eqb m n) (placed_pids qs)) (sym same) ∙ two.0))

-- each process that has not ended is at home in a cluster that lives
homes_lived : (system : System) (log : List Entry) → is_system system ≡ true → IsLegalBy MayStand system log → is_over system log ≡ false → all_at (lives_in (placement system log)) (placement system log).placed ≡ true
homes_lived system log valid legal goes_on =
    each_found (lives_in (placement system log)) (placement system log).placed (stand_apart system log valid legal)
    (homes_live MayStand (λ system log e may. may.stands) system log valid legal goes_on)

-- its number is below theirs
stand_homes : (system : System) (log : List Entry) → is_system system ≡ true → IsLegalBy MayStand system log → is_over system log ≡ false → all_at (λ k. ltb k.0 system.clusters) (placement system log).placed ≡ true
stand_homes system log valid legal goes_on =
    list_all-weaker (λ (q : Placed). q.ended || lives_in (placement system log) q.home) (λ (q : Placed). q.ended || ltb (q.home).0 system.clusters) (λ q. weaker q q.ended) (placement system log).placed (homes_lived system log valid legal goes_on)
  where
    weaker : (q : Placed) (b : Bool) → (b || lives_in (placement system log) q.home) ≡ true → (b || ltb (q.home).0 system.clusters) ≡ true
    weaker q true h = refl
    weaker q false h =
        let within : (q.home).0 < system.clusters = omega (arith, lives_within (placement system log) q.home h, stand_clusters-length system log legal) in
        grind (arith, nat_tests)

-- no process that has not ended is at home in a cluster of another kind
none_home : (t : ClusterNo → Bool) (k : ClusterNo) (qs : List Placed) → all_at t qs ≡ true → t k ≡ false → filter (is_at_home k) qs ≡ []
none_home t k [] all other = refl
none_home t k (q ∷ qs) all other =
    let parts = and_parts (q.ended || t q.home) (all_at t qs) all in
    by_tests (same_cluster q.home k) q.ended refl parts.0 (none_home t k qs parts.1 other)
  where
    by_tests : (b c : Bool) → same_cluster q.home k ≡ b → (c || t q.home) ≡ true → filter (is_at_home k) qs ≡ [] → cond (b && not c) (q ∷ filter (is_at_home k) qs) (filter (is_at_home k) qs) ≡ []
    by_tests true true is h more = more
    by_tests false c is h more = more
    by_tests true false is h more =
        let home : q.home ≡ k = λ i. record { 0 = eqb-true (q.home).0 k.0 is i } in
        absurd (true≢false (sym h ∙ ap t home ∙ other))

-- in a cluster that does not live every process rests, since none is at home there
pub lost_rest : (system : System) (log : List Entry) (k : ClusterNo) → is_system system ≡ true → IsLegalBy MayStand system log → is_over system log ≡ false → lives_in (placement system log) k ≡ false → IsRestOf system log k []
lost_rest system log k valid legal goes_on lost = record {
  named = sym (ap (λ (qs : List Placed). rising (map (λ (q : Placed). (q.pid).0) qs)) nobody);
  idle = refl;
  backed = ap (list_all (λ q. is_none (next_backup (placement system log) q))) nobody;
}
  where
    nobody : filter (is_at_home k) (placement system log).placed ≡ []
    nobody = none_home (lives_in (placement system log)) k (placement system log).placed (homes_lived system log valid legal goes_on) lost

-- ---- the pids at home

abbrev pids_of : List Placed → List ℕ
pids_of qs = map (λ (q : Placed). (q.pid).0) qs

abbrev pids_at : List Placed → ℕ → List ℕ
pids_at qs k = pids_of (filter (is_at_home (cluster_no k)) qs)

none_at : (a len : ℕ) → flat_map (pids_at []) (range_with_len a len) ≡ []
none_at a zero = refl
none_at a (suc len) = none_at (a + 1) len

ended_at : (q : Placed) (qs : List Placed) (k : ℕ) → q.ended ≡ true → pids_at (q ∷ qs) k ≡ pids_at qs k
ended_at q qs k ended = ap (λ b. pids_of (cond (eqb (q.home).0 k && not b) (q ∷ filter (is_at_home (cluster_no k)) qs) (filter (is_at_home (cluster_no k)) qs))) ended ∙ by_test (eqb (q.home).0 k)
  where
    by_test : (b : Bool) → pids_of (cond (b && false) (q ∷ filter (is_at_home (cluster_no k)) qs) (filter (is_at_home (cluster_no k)) qs)) ≡ pids_at qs k
    by_test true = refl
    by_test false = refl

unended_at_home : (q : Placed) (qs : List Placed) (k : ℕ) → q.ended ≡ false → pids_at (q ∷ qs) k ≡ with_one (q.pid).0 (q.home).0 (pids_at qs) k
unended_at_home q qs k goes_on = ap (λ b. pids_of (cond (eqb (q.home).0 k && not b) (q ∷ filter (is_at_home (cluster_no k)) qs) (filter (is_at_home (cluster_no k)) qs))) goes_on ∙ by_test (eqb (q.home).0 k)
  where
    by_test : (b : Bool) → pids_of (cond (b && true) (q ∷ filter (is_at_home (cluster_no k)) qs) (filter (is_at_home (cluster_no k)) qs)) ≡ cond b ((q.pid).0 ∷ pids_at qs k) (pids_at qs k)
    by_test true = refl
    by_test false = refl

-- each process that has not ended is at home in one cluster
rising_homes : (n : ℕ) (qs : List Placed) → all_at (λ k. ltb k.0 n) qs ≡ true → rising (flat_map (pids_at qs) (range_with_len 0 n)) ≡ rising (pids_of (filter (λ (q : Placed). not q.ended) qs))
rising_homes n [] below = ap rising (none_at 0 n)
rising_homes n (q ∷ qs) below = by_end q.ended refl parts.0 (rising_homes n qs parts.1)
  where
    parts : ((q.ended || ltb (q.home).0 n) ≡ true) × (all_at (λ k. ltb k.0 n) qs ≡ true)
    parts = and_parts (q.ended || ltb (q.home).0 n) (all_at (λ k. ltb k.0 n) qs) below

    by_end : (b : Bool) → q.ended ≡ b → (b || ltb (q.home).0 n) ≡ true → rising (flat_map (pids_at qs) (range_with_len 0 n)) ≡ rising (pids_of (filter (λ (q : Placed). not q.ended) qs))
        → rising (flat_map (pids_at (q ∷ qs)) (range_with_len 0 n)) ≡ rising (pids_of (cond (not b) (q ∷ filter (λ (q : Placed). not q.ended) qs) (filter (λ (q : Placed). not q.ended) qs)))
    by_end true is here more = ap (λ f. rising (flat_map f (range_with_len 0 n))) (λ i k. ended_at q qs k is i) ∙ more
    by_end false is here more =
        let within : (q.home).0 < n = grind (arith, nat_tests) in
        ap (λ f. rising (flat_map f (range_with_len 0 n))) (λ i k. unended_at_home q qs k is i)
        ∙ rising_one_more (q.pid).0 (q.home).0 (pids_at qs) 0 n (omega arith) (omega (arith, within)) ∙ ap (put_rising (q.pid).0) more

-- ---- what holds in each cluster

along : {A : Type 0} (f g : ℕ → List A) (a len : ℕ) → ((k : ℕ) → k < a + len → f k ≡ g k) → flat_map f (range_with_len a len) ≡ flat_map g (range_with_len a len)
along f g a zero same = refl
along f g a (suc len) same =
    ap (λ l. l ++ flat_map f (range_with_len (a + 1) len)) (same a (omega arith)) ∙ ap (λ l. g a ++ l) (along f g (a + 1) len (λ k within. same k (omega arith)))

pids-flat_map : (f : ℕ → List (Pid × ℕ)) (ks : List ℕ) → rest_pids (flat_map f ks) ≡ flat_map (λ k. rest_pids (f k)) ks
pids-flat_map f [] = refl
pids-flat_map f (k ∷ ks) = map-append (λ (r : Pid × ℕ). (r.0).0) (f k) (flat_map f ks) ∙ ap (λ l. rest_pids (f k) ++ l) (pids-flat_map f ks)

all_parts : (t : Pid × ℕ → Bool) (f : ℕ → List (Pid × ℕ)) (a len : ℕ) → ((k : ℕ) → k < a + len → list_all t (f k) ≡ true) → list_all t (flat_map f (range_with_len a len)) ≡ true
all_parts t f a zero each = refl
all_parts t f a (suc len) each =
    list_all-append t (f a) (flat_map f (range_with_len (a + 1) len)) ∙ and_from (list_all t (f a)) _ (each a (omega arith)) (all_parts t f (a + 1) len (λ k within. each k (omega arith)))

-- a test that passes for each process that has ended, and for each at home in a cluster
all_placed : (t : Placed → Bool) (n : ℕ) (qs : List Placed) → ((q : Placed) → q.ended ≡ true → t q ≡ true) → all_at (λ k. ltb k.0 n) qs ≡ true → ((k : ℕ) → k < n → list_all t (filter (is_at_home (cluster_no k)) qs) ≡ true) → list_all t qs ≡ true
all_placed t n [] gone below each = refl
all_placed t n (q ∷ qs) gone below each =
    and_from (t q) (list_all t qs) (here q.ended refl parts.0) (all_placed t n qs gone parts.1 (λ k within. later k (is_at_home (cluster_no k) q) (each k within)))
  where
    parts : ((q.ended || ltb (q.home).0 n) ≡ true) × (all_at (λ k. ltb k.0 n) qs ≡ true)
    parts = and_parts (q.ended || ltb (q.home).0 n) (all_at (λ k. ltb k.0 n) qs) below

    later : (k : ℕ) (b : Bool) → list_all t (cond b (q ∷ filter (is_at_home (cluster_no k)) qs) (filter (is_at_home (cluster_no k)) qs)) ≡ true → list_all t (filter (is_at_home (cluster_no k)) qs) ≡ true
    later k true all = (and_parts (t q) _ all).1
    later k false all = all

    here : (b : Bool) → q.ended ≡ b → (b || ltb (q.home).0 n) ≡ true → t q ≡ true
    here true is near = gone q is
    here false is near =
        let within : (q.home).0 < n = grind (arith, nat_tests) in
        let home : is_at_home (cluster_no (q.home).0) q ≡ true = and_from (eqb (q.home).0 (q.home).0) (not q.ended) (eq-eqb (q.home).0 (q.home).0 refl) (ap not is) in
        (and_parts (t q) _ (sym (ap (λ b. list_all t (cond b (q ∷ filter (is_at_home (cluster_no (q.home).0)) qs) (filter (is_at_home (cluster_no (q.home).0)) qs))) home) ∙ each (q.home).0 within)).0

-- ---- the whole

-- the parts, put together in rising order
pub record Merges (parts rests : List (Pid × ℕ)) : Type 0 where
  pub named : rest_pids rests ≡ rising (rest_pids parts)
  pub each : (t : Pid × ℕ → Bool) → list_all t parts ≡ true → list_all t rests ≡ true

-- where the processes of each cluster rest, all rest
pub all_rest : (system : System) (log : List Entry) (rests_in : ℕ → List (Pid × ℕ)) (rests : List (Pid × ℕ)) → is_system system ≡ true → IsLegalBy MayStand system log → is_over system log ≡ false
    → ((k : ℕ) → k < system.clusters → IsRestOf system log (cluster_no k) (rests_in k)) → Merges (flat_map rests_in (range_with_len 0 system.clusters)) rests → AllRest system log rests
all_rest system log rests_in rests valid legal goes_on rest merges = record {
  named =
      merges.named ∙ ap rising (pids-flat_map rests_in (range_with_len 0 system.clusters))
      ∙ ap rising (along (λ k. rest_pids (rests_in k)) (λ k. rising (pids_at (placement system log).placed k)) 0 system.clusters (λ k within. (rest k (omega (arith, within))).named))
      ∙ rising-parts (pids_at (placement system log).placed) (range_with_len 0 system.clusters)
      ∙ rising_homes system.clusters (placement system log).placed (stand_homes system log valid legal goes_on);
  idle = merges.each (is_idle_at system log) (all_parts (is_idle_at system log) rests_in 0 system.clusters (λ k within. (rest k (omega (arith, within))).idle));
}

-- where no process at home in any cluster is owed a backup, none is
pub none_owed : (system : System) (log : List Entry) → is_system system ≡ true → IsLegalBy MayStand system log → is_over system log ≡ false
    → ((k : ℕ) → k < system.clusters → owes_no_backup_at system log (cluster_no k) ≡ true) → owes_no_backup (placement system log) ≡ true
none_owed system log valid legal goes_on each =
    all_placed (λ q. is_none (next_backup (placement system log) q)) system.clusters (placement system log).placed
    (λ q ended. ap (λ b. is_none (cond (b || is_some q.backup) None (backup_by_mode (placement system log) q q.mode))) ended)
    (stand_homes system log valid legal goes_on) each
