-- While a log goes on a page server is left, also behind many losses and returns: the first of them is a cluster of the system, and it lives.
use Rattle.std.proofs.Common.{◌≡◌, ◌<◌, refl, sym, ◌∙◌, ap, subst, arith, List, [], ◌∷◌, length, Bool, true, false, cond, not, ◌&&◌, ◌||◌, eqb, eqb-true, eq-eqb, Option, Some, None, true≢false}
use Rattle.std.specs.Prelude.{filter, slice_get, slice_set}
use Rattle.std.specs.Option.{option_map_or}
use Rattle.std.specs.List.{list_all, list_any}
use Rattle.std.proofs.lemmas.Bool.{and_parts}
use Rattle.std.proofs.lemmas.Option.{slice_get_within}
use Rattle.t32_base.specs.declared.process.ClusterNo.{ClusterNo}
use Rattle.t32_base.specs.declared.process.Pid.{Pid}
use Rattle.t32_base.proofs.Facts.{or_true}
use Rattle.sys_text.specs.declared.system.System.{System}
use Rattle.sys_text.specs.Valid.{is_system}
use Rattle.bus_msg.specs.declared.entry.By.TheVariants.{Cluster}
use Rattle.bus_msg.specs.declared.entry.Cause.{Cause}
use Rattle.bus_msg.specs.declared.entry.What.{What}
use Rattle.bus_msg.specs.declared.entry.What.TheVariants.{Birth, Crash, Return}
use Rattle.bus_msg.specs.declared.entry.Entry.{Entry}
use Rattle.bus_msg.specs.declared.placed.Placed.{Placed}
use Rattle.bus_msg.specs.Places.{ClusterPlace, Places, cluster_no, is_at_home, is_covered, lives_in, never_lost, placed_at, same_cluster, servers_in}
use Rattle.bus_msg.specs.PlacedAfter.{changed_at, lost_cluster, placed_after, returned_cluster, what, with_birth}
use Rattle.cert_sched.specs.Parts.{first_of}
use Rattle.cert_sched.specs.Schedule.{placement}
use Rattle.cert_sched.specs.Rules.{ends_run, is_by, is_over}
use Rattle.cert_sched.specs.Legal.{IsLegalBy, Stands}
use Rattle.cert_sched.proofs.BirthClusters.{birth_keeps}
use Rattle.cert_sched.proofs.FreshLaws.{kept_elsewhere, put_here}
use Rattle.cert_sched.proofs.HomesLaws.{clusters-length}
use Rattle.cert_sched.proofs.Induction.{is_over-snoc, legal_induction}
use Rattle.cert_sched.proofs.LogLaws.{placement-snoc}
use Rattle.cert_sched.proofs.ServerLaws.{first_server, servers_live}
use Rattle.cert_sched.proofs.LiveLaws.{none_legal}
use Rattle.cert_sched.specs.Legal.{MayStand}
use Rattle.script_laws.specs.Servers.{HasServer}
use Rattle.script_laws.proofs.CoveredLosses.{crashless_covered}

-- ---- a server is left

-- one of the pair was never lost
abbrev is_served : Places → Bool
is_served places = never_lost places (places.pager).0 || never_lost places (places.pager).1

-- of two, one that passes both tests
one_of_two : (t u : ClusterNo → Bool) (p q : ClusterNo) → list_any u (filter t (p ∷ q ∷ [])) ≡ ((t p && u p) || (t q && u q))
one_of_two t u p q = by_tests (t p) (t q)
  where
    or_false : (b : Bool) → (b || false) ≡ b
    or_false true = refl
    or_false false = refl

    by_tests : (a b : Bool) → list_any u (cond a (p ∷ cond b (q ∷ []) []) (cond b (q ∷ []) [])) ≡ ((a && u p) || (b && u q))
    by_tests true true = ap (λ c. u p || c) (or_false (u q))
    by_tests true false = refl
    by_tests false true = or_false (u q)
    by_tests false false = refl

-- one that is not taken away stays
one_stays : (n s m o r l : Bool) → (s ≡ false → l ≡ n) → (o ≡ false → r ≡ m) → ((n && not s) || (m && not o)) ≡ true → (l || r) ≡ true
one_stays true false m o r l first second one = ap (λ b. b || r) (first refl)
one_stays true true true false r l first second one = ap (λ b. l || b) (second refl) ∙ or_true l
one_stays true true true true r l first second one = absurd (true≢false (sym one))
one_stays true true false o r l first second one = absurd (true≢false (sym one))
one_stays false s true false r l first second one = ap (λ b. l || b) (second refl) ∙ or_true l
one_stays false s true true r l first second one = absurd (true≢false (sym one))
one_stays false s false o r l first second one = absurd (true≢false (sym one))

-- where a loss is covered, one that it does not lose was never lost
covered_one : (places : Places) (k : ClusterNo) → is_covered places k ≡ true → ((never_lost places (places.pager).0 && not (same_cluster (places.pager).0 k)) || (never_lost places (places.pager).1 && not (same_cluster (places.pager).1 k))) ≡ true
covered_one places k covered =
    sym (one_of_two (never_lost places) (λ s. not (same_cluster s k)) (places.pager).0 (places.pager).1)
    ∙ (and_parts (list_all (λ (q : Placed). not (is_at_home k q) || option_map_or (lives_in places) q.backup false) places.placed) (list_any (λ s. not (same_cluster s k)) (servers_in places)) covered).1

covered_served : (places : Places) (k : ClusterNo) → is_covered places k ≡ true → is_served places ≡ true
covered_served places k covered =
    one_stays (never_lost places (places.pager).0) (same_cluster (places.pager).0 k) (never_lost places (places.pager).1) (same_cluster (places.pager).1 k) (never_lost places (places.pager).1) (never_lost places (places.pager).0)
    (λ other. refl) (λ other. refl) (covered_one places k covered)

-- another cluster is lost
never_lost-other : (places : Places) (k j : ClusterNo) (cause : Cause) → same_cluster j k ≡ false → never_lost (placed_after places (Crash k cause)) j ≡ never_lost places j
never_lost-other places k j cause apart = by_cluster (slice_get places.clusters k.0)
  where
    by_cluster : (o : Option ClusterPlace) → option_map_or (λ (c : ClusterPlace). not c.was_lost) (slice_get (changed_at k.0 lost_cluster o places.clusters) j.0) false ≡ never_lost places j
    by_cluster None = refl
    by_cluster (Some c) =
        ap (λ o. option_map_or (λ (c : ClusterPlace). not c.was_lost) o false) (kept_elsewhere places.clusters k.0 j.0 (lost_cluster c) (λ same. true≢false (sym (eq-eqb j.0 k.0 same) ∙ apart)))

loss_served : (places : Places) (k : ClusterNo) (cause : Cause) → is_covered places k ≡ true → is_served (placed_after places (Crash k cause)) ≡ true
loss_served places k cause covered =
    let after : Places = placed_after places (Crash k cause) in
    one_stays (never_lost places (places.pager).0) (same_cluster (places.pager).0 k) (never_lost places (places.pager).1) (same_cluster (places.pager).1 k) (never_lost after (places.pager).1) (never_lost after (places.pager).0)
    (never_lost-other places k (places.pager).0 cause) (never_lost-other places k (places.pager).1 cause) (covered_one places k covered)

-- an entry after which the log goes on leaves one
-- a birth leaves which clusters were lost
birth_served : (places : Places) (child : Pid) (o : Option Placed) → is_served places ≡ true → is_served (with_birth places child o) ≡ true
birth_served places child None served = served
birth_served places child (Some q) served = (λ i. kept (places.pager).0 i || kept (places.pager).1 i) ∙ served
  where
    kept : (k : ClusterNo) → never_lost (with_birth places child (Some q)) k ≡ never_lost places k
    kept = birth_keeps (λ (c : ClusterPlace). not c.was_lost) (λ c. refl) places child (Some q)

-- a return leaves it too
return_served : (places : Places) (k : ClusterNo) → is_served places ≡ true → is_served (placed_after places (Return k)) ≡ true
return_served places k served = (λ i. kept (places.pager).0 i || kept (places.pager).1 i) ∙ served
  where
    never : Option ClusterPlace → Bool
    never o = option_map_or (λ (c : ClusterPlace). not c.was_lost) o false

    kept : (j : ClusterNo) → never_lost (placed_after places (Return k)) j ≡ never_lost places j
    kept j = by_cluster (slice_get places.clusters k.0) refl (eqb k.0 j.0) refl
      where
        by_cluster : (o : Option ClusterPlace) → slice_get places.clusters k.0 ≡ o → (b : Bool) → eqb k.0 j.0 ≡ b → never (slice_get (changed_at k.0 returned_cluster o places.clusters) j.0) ≡ never (slice_get places.clusters j.0)
        by_cluster None there b is = refl
        by_cluster (Some c) there true is =
            subst (λ n. never (slice_get (slice_set places.clusters k.0 (returned_cluster c)) n) ≡ never (slice_get places.clusters n)) (eqb-true k.0 j.0 is)
            (ap never (put_here places.clusters k.0 (returned_cluster c) c there) ∙ sym (ap never there))
        by_cluster (Some c) there false is = ap never (kept_elsewhere places.clusters k.0 j.0 (returned_cluster c) (λ same. true≢false (sym (eq-eqb k.0 j.0 (sym same)) ∙ is)))

more_served : (places : Places) (w : What) → ends_run places w ≡ false → is_served places ≡ true → is_served (placed_after places w) ≡ true
more_served places (Birth parent at child end) goes served = birth_served places child (placed_at places parent) served
more_served places (Crash k cause) goes served = loss_served places k cause (not_not (is_covered places k) goes)
  where
    not_not : (b : Bool) → not b ≡ false → b ≡ true
    not_not true h = refl
    not_not false h = absurd (true≢false h)
more_served places (Return k) goes served = return_served places k served
more_served places _ goes served = served

log_served : (system : System) (log : List Entry) → is_system system ≡ true → IsLegalBy Stands system log → is_over system log ≡ false → is_served (placement system log) ≡ true
log_served system log valid legal =
    legal_induction Stands system (λ log. is_over system log ≡ false → is_served (placement system log) ≡ true)
    (λ goes. covered_served (placement system []) (cluster_no 0) (crashless_covered system [] (cluster_no 0) valid (none_legal MayStand system) refl))
    (λ log e before stands goes.
    ap is_served (placement-snoc system log e) ∙ more_served (placement system log) (what e) (sym (is_over-snoc system log e) ∙ goes) (before (stands.placed).2)) log legal

-- ---- the first of them

-- a cluster that was never lost is there
there_within : (places : Places) (k : ClusterNo) → never_lost places k ≡ true → k.0 < length places.clusters
there_within places k never = by_cluster (slice_get places.clusters k.0) refl never
  where
    by_cluster : (o : Option ClusterPlace) → slice_get places.clusters k.0 ≡ o → option_map_or (λ (c : ClusterPlace). not c.was_lost) o false ≡ true → k.0 < length places.clusters
    by_cluster None at h = absurd (true≢false (sym h))
    by_cluster (Some c) at h = slice_get_within places.clusters k.0 c at

served_first : (places : Places) (P : Type 0) → ((k : ClusterNo) → first_of (servers_in places) ≡ Some k → P) → is_served places ≡ true → P
served_first places P with_it = by_tests (never_lost places (places.pager).0) (never_lost places (places.pager).1) refl refl
  where
    by_tests : (a b : Bool) → never_lost places (places.pager).0 ≡ a → never_lost places (places.pager).1 ≡ b → (a || b) ≡ true → P
    by_tests true b is other one = with_it (places.pager).0 (ap (λ t. first_of (cond t ((places.pager).0 ∷ filter (never_lost places) ((places.pager).1 ∷ [])) (filter (never_lost places) ((places.pager).1 ∷ [])))) is)
    by_tests false true is other one = with_it (places.pager).1 (λ i. first_of (cond (is i) ((places.pager).0 ∷ cond (other i) ((places.pager).1 ∷ []) []) (cond (other i) ((places.pager).1 ∷ []) [])))
    by_tests false false is other one = absurd (true≢false (sym one))

-- where a log goes on there is one, and it lives
pub server_left : (system : System) (log : List Entry) → is_system system ≡ true → IsLegalBy Stands system log → is_over system log ≡ false → HasServer system log
server_left system log valid legal goes =
    served_first (placement system log) (HasServer system log)
    (λ k first.
    let never : never_lost (placement system log) k ≡ true = first_server (placement system log) k (ap (is_by (Cluster k)) first ∙ eq-eqb k.0 k.0 refl) in
    record {
      server = k;
      first = first;
      within = omega (arith, there_within (placement system log) k never, clusters-length Stands system log legal);
      lives = servers_live system log k never;
    })
    (log_served system log valid legal goes)
