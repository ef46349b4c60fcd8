-- An entry after which a process is still at its home, which lives, has not moved it.
use Rattle.std.proofs.Common.{◌≡◌, ℕ, refl, sym, ◌∙◌, ap, List, [], ◌∷◌, ◌++◌, Bool, true, false, cond, not, ◌&&◌, ◌||◌, eqb, eqb-true, Option, Some, None, is_some, slice_get, true≢false}
use Rattle.std.specs.Prelude.{find, option_map}
use Rattle.std.specs.List.{list_any}
use Rattle.std.specs.Option.{option_map_or}
use Rattle.std.proofs.lemmas.Bool.{and_parts, or_parts}
use Rattle.t32_base.specs.declared.process.Pid.{Pid}
use Rattle.t32_base.specs.declared.process.ClusterNo.{ClusterNo}
use Rattle.sys_text.specs.declared.system.System.{System}
use Rattle.sys_text.specs.Valid.{is_system}
use Rattle.bus_msg.specs.declared.entry.What.{What}
use Rattle.bus_msg.specs.declared.entry.What.TheVariants.{Crash}
use Rattle.bus_msg.specs.declared.entry.Cause.{Cause}
use Rattle.bus_msg.specs.declared.entry.By.TheVariants.{Cluster}
use Rattle.bus_msg.specs.declared.entry.Entry.{Entry}
use Rattle.bus_msg.specs.declared.placed.Placed.{Placed}
use Rattle.bus_msg.specs.Places.{ClusterPlace, Places, is_moved_by, lives_in, same_cluster, same_pid, unended_at}
use Rattle.bus_msg.specs.PlacedAfter.{changed_at, lost_cluster, placed_after, what}
use Rattle.cert_sched.specs.Schedule.{placement}
use Rattle.cert_sched.specs.Told.{cluster_lost, is_moved}
use Rattle.cert_sched.specs.Rules.{is_by, is_by_home, is_living}
use Rattle.cert_sched.specs.Legal.{IsLegalBy, Stands}
use Rattle.cert_sched.proofs.FreshLaws.{only_one, put_here}
use Rattle.cert_sched.proofs.LogLaws.{placement-snoc}
use Rattle.cert_sched.proofs.PidLaws.{placed_pids}
use Rattle.cert_sched.proofs.RisingLaws.{NoTwo}
use Rattle.cert_sched.proofs.RollLaws.{all_roll, two_apart}
use Rattle.log_laws.specs.pages.Next.{moves_next}
use Rattle.log_laws.proofs.pages.OneEntry.{turned}
use Rattle.log_laws.proofs.letters.LogReads.{itself}

-- ---- one process

-- where none of them has the pid, none with the pid passes a test
none_other : (t : Placed → Bool) (p : Pid) (n : ℕ) (qs : List Placed) → n ≡ p.0 → list_any (λ m. eqb m n) (placed_pids qs) ≡ false → list_any (λ (r : Placed). same_pid r.pid p && t r) qs ≡ false
none_other t p n [] same none = refl
none_other t p n (r ∷ qs) same none =
    let parts = or_parts (eqb (r.pid).0 n) (list_any (λ m. eqb m n) (placed_pids qs)) none in
    let other : same_pid r.pid p ≡ false = ap (eqb (r.pid).0) (sym same) ∙ parts.0 in
    λ i. (other i && t r) || none_other t p n qs same parts.1 i

-- where the one with the pid does not pass, none with the pid does
none_passes : (t : Placed → Bool) (p : Pid) (qs : List Placed) (q : Placed) → NoTwo (placed_pids qs) → find (λ (q : Placed). same_pid q.pid p) qs ≡ Some q → t q ≡ false → list_any (λ (r : Placed). same_pid r.pid p && t r) qs ≡ false
none_passes t p [] q two found fails = refl
none_passes t p (r ∷ qs) q two found fails = by_pid (same_pid r.pid p) refl found (λ found. none_passes t p qs q two.1 found fails)
  where
    by_pid : (b : Bool) → same_pid r.pid p ≡ b → cond b (Some r) (find (λ (q : Placed). same_pid q.pid p) qs) ≡ Some q
        → (find (λ (q : Placed). same_pid q.pid p) qs ≡ Some q → list_any (λ (r : Placed). same_pid r.pid p && t r) qs ≡ false) → ((b && t r) || list_any (λ (r : Placed). same_pid r.pid p && t r) qs) ≡ false
    by_pid true is found more =
        let same : r ≡ q = cc in
        λ i. (ap t same ∙ fails) i || none_other t p (r.pid).0 qs (eqb-true (r.pid).0 p.0 is) two.0 i
    by_pid false is found more = more found

-- the loss of a cluster moves no process that is at home in another
not_moved : (places : Places) (k j : ClusterNo) (p : Pid) → NoTwo (placed_pids places.placed) → is_by_home places (Cluster k) (Some p) ≡ true → same_cluster j k ≡ false → is_moved p places j ≡ false
not_moved places k j p two home apart = by_found (unended_at places p) refl (and_parts (is_living places (Cluster k)) (is_by (Cluster k) (option_map (λ (q : Placed). q.home) (unended_at places p))) home).1
  where
    away : (q : Placed) → same_cluster k q.home ≡ true → is_moved_by j q ≡ false
    away q at =
        let other : same_cluster q.home j ≡ false = ap (λ n. eqb n j.0) (sym (eqb-true k.0 (q.home).0 at)) ∙ turned k.0 j.0 ∙ apart in
        λ i. (other i && not q.ended) && is_some q.backup

    by_found : (o : Option Placed) → unended_at places p ≡ o → is_by (Cluster k) (option_map (λ (q : Placed). q.home) o) ≡ true → is_moved p places j ≡ false
    by_found None found at = absurd (true≢false (sym at))
    by_found (Some q) found at = none_passes (is_moved_by j) p places.placed q two (only_one p places.placed q two found) (away q at)

-- ---- the cluster

-- a cluster does not live after its loss
lost_after : (places : Places) (k : ClusterNo) (cause : Cause) → lives_in (placed_after places (Crash k cause)) k ≡ false
lost_after places k cause = by_cluster (slice_get places.clusters k.0) refl
  where
    by_cluster : (o : Option ClusterPlace) → slice_get places.clusters k.0 ≡ o → option_map_or (λ (c : ClusterPlace). c.lives) (slice_get (changed_at k.0 lost_cluster o places.clusters) k.0) false ≡ false
    by_cluster None there = ap (λ o. option_map_or (λ (c : ClusterPlace). c.lives) o false) there
    by_cluster (Some c) there = ap (λ o. option_map_or (λ (c : ClusterPlace). c.lives) o false) (put_here places.clusters k.0 (lost_cluster c) c there)

-- ---- the entry

pub home_stays : (system : System) (log : List Entry) (e : Entry) (k : ClusterNo) (p : Pid) → is_system system ≡ true → IsLegalBy Stands system log → is_by_home (placement system log) (Cluster k) (Some p) ≡ true
    → is_by_home (placement system (log ++ e ∷ [])) (Cluster k) (Some p) ≡ true → moves_next system log e p ≡ false
home_stays system log e k p valid legal home later = by_what (what e) refl
  where
    lives : lives_in (placed_after (placement system log) (what e)) k ≡ true
    lives = ap (λ places. lives_in places k) (sym (placement-snoc system log e)) ∙ (and_parts (is_living (placement system (log ++ e ∷ [])) (Cluster k)) _ later).0

    by_loss : (j : ClusterNo) (cause : Cause) → what e ≡ Crash j cause → (b : Bool) → same_cluster j k ≡ b → is_moved p (placement system log) j ≡ false
    by_loss j cause is true same =
        let here : j ≡ k = λ i. record { 0 = eqb-true j.0 k.0 same i } in
        absurd (true≢false (sym lives ∙ ap (λ w. lives_in (placed_after (placement system log) w) k) is ∙ (λ i. lives_in (placed_after (placement system log) (Crash (here i) cause)) k) ∙ lost_after (placement system log) k cause))
    by_loss j cause is false apart = not_moved (placement system log) k j p (two_apart system log (all_roll Stands itself system log valid legal)) home apart

    by_what : (w : What) → what e ≡ w → option_map_or (is_moved p (placement system log)) (cluster_lost w) false ≡ false
    by_what (Crash j cause) is = by_loss j cause is (same_cluster j k) refl
    by_what _ is = refl
