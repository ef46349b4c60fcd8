-- A cluster that has come back follows the log up to its return: no process is at home in it, and none has its backup there.
use Rattle.std.proofs.Common.{◌≡◌, ℕ, zero, suc, refl, sym, ◌∙◌, ap, subst, List, [], ◌∷◌, ◌++◌, length, map, Bool, true, false, not, ◌&&◌, ◌||◌, eqb, eq-eqb, eqb-true, Option, Some, None, slice_get, true≢false, inl}
use Rattle.std.specs.Option.{option_map_or}
use Rattle.std.specs.List.{list_any, range_with_len}
use Rattle.std.proofs.lemmas.List.Folds.{list_any-append}
use Rattle.t32_base.specs.declared.process.Pid.{Pid}
use Rattle.t32_base.specs.declared.process.ClusterNo.{ClusterNo}
use Rattle.sys_text.specs.declared.system.System.{System}
use Rattle.sys_text.specs.Boot.{roots_of}
use Rattle.sys_text.specs.Valid.{is_system}
use Rattle.bus_msg.specs.declared.entry.What.{What}
use Rattle.bus_msg.specs.declared.entry.What.TheVariants.{Birth, Crash, Return}
use Rattle.bus_msg.specs.declared.entry.Entry.{Entry}
use Rattle.bus_msg.specs.declared.placed.Placed.{Placed}
use Rattle.bus_msg.specs.Places.{ClusterPlace, Places, boot_cluster, is_lost_in, placed_at, same_cluster, unended_at}
use Rattle.bus_msg.specs.PlacedAfter.{changed_at, placed_after, returned_cluster, what}
use Rattle.cert_sched.specs.Losses.{is_crash_of, was_lost_in}
use Rattle.cert_sched.specs.Kinds.{KindHolds}
use Rattle.cert_sched.specs.Legal.{IsLegalBy, Stands}
use Rattle.cert_sched.specs.Parts.{rising}
use Rattle.cert_sched.specs.Rests.{home_pids}
use Rattle.cert_sched.specs.Schedule.{placed_root, placement}
use Rattle.cert_sched.proofs.BirthClusters.{birth_keeps}
use Rattle.cert_sched.proofs.FreshLaws.{kept_elsewhere, put_here}
use Rattle.cert_sched.proofs.Induction.{legal_induction}
use Rattle.cert_sched.proofs.LogLaws.{IsLegal-before, IsLegal-last, placement-snoc}
use Rattle.cert_sched.proofs.RollLaws.{all_roll, two_apart}
use Rattle.log_laws.proofs.letters.LogReads.{itself}
use Rattle.log_laws.specs.births.Unsynced.{unsynced_births}
use Rattle.backup_laws.proofs.ReturnedEmpty.{returned_home, returned_records}
use Rattle.cert_sched.specs.Rules.{has_awaited_backup}
use Rattle.cluster_core.specs.Owed.{AreOwed, is_owed}
use Rattle.cluster_core.specs.Follows.{Follows}
use Rattle.cluster_core.specs.Queue.{Nothing}
use Rattle.cluster_core.specs.Returned.{returned}
use Rattle.cluster_core.proofs.losses.FirstServer.{lost_other}
use Rattle.cluster_core.proofs.losses.Homes.{HomeHere, differ_of, home_here}

-- ---- words on tests

first : (a b : Bool) → a ≡ true → (a || b) ≡ true
first a b is = ap (λ a. a || b) is

second : (a b : Bool) → b ≡ true → (a || b) ≡ true
second true b is = refl
second false b is = is

-- a cluster is there and does not live
abbrev is_dead : Option ClusterPlace → Bool
is_dead o = option_map_or (λ (c : ClusterPlace). not c.lives) o false

-- ---- it was lost

-- a cluster that is lost after an entry was so before it, or is lost by it
lost_by : (w : What) (places : Places) (k : ClusterNo) → is_lost_in (placed_after places w) k ≡ true → (is_lost_in places k || is_crash_of k w) ≡ true
lost_by (Birth parent at child end) places k lost = first (is_lost_in places k) false (sym (birth_keeps (λ (c : ClusterPlace). not c.lives) (λ c. refl) places child (placed_at places parent) k) ∙ lost)
lost_by (Crash j cause) places k lost = by_number (eqb j.0 k.0) refl
  where
    by_number : (b : Bool) → eqb j.0 k.0 ≡ b → (is_lost_in places k || eqb j.0 k.0) ≡ true
    by_number true same = second (is_lost_in places k) (eqb j.0 k.0) same
    by_number false apart = first (is_lost_in places k) (eqb j.0 k.0) (ap is_dead (sym (lost_other places.clusters j.0 k.0 apart)) ∙ lost)
lost_by (Return j) places k lost = by_number (eqb j.0 k.0) refl
  where
    here : (o : Option ClusterPlace) → slice_get places.clusters j.0 ≡ o → is_dead (slice_get (changed_at j.0 returned_cluster o places.clusters) j.0) ≡ false
    here None there = ap is_dead there
    here (Some c) there = ap is_dead (put_here places.clusters j.0 (returned_cluster c) c there)

    elsewhere : (o : Option ClusterPlace) → eqb j.0 k.0 ≡ false → slice_get (changed_at j.0 returned_cluster o places.clusters) k.0 ≡ slice_get places.clusters k.0
    elsewhere None apart = refl
    elsewhere (Some c) apart = kept_elsewhere places.clusters j.0 k.0 (returned_cluster c) (λ same. true≢false (sym (eq-eqb j.0 k.0 (sym same)) ∙ apart))

    by_number : (b : Bool) → eqb j.0 k.0 ≡ b → (is_lost_in places k || false) ≡ true
    by_number true same =
        let At : ℕ → Type 0 = λ n. is_dead (slice_get (changed_at j.0 returned_cluster (slice_get places.clusters j.0) places.clusters) n) ≡ false in
        absurd (true≢false (sym lost ∙ subst At (eqb-true j.0 k.0 same) (here (slice_get places.clusters j.0) refl)))
    by_number false apart = first (is_lost_in places k) false (ap is_dead (sym (elsewhere (slice_get places.clusters j.0) apart)) ∙ lost)
lost_by _ places k lost = first (is_lost_in places k) false lost

none_at_boot : (roots : List Placed) (ns : List ℕ) (n : ℕ) → is_dead (slice_get (map (boot_cluster roots) ns) n) ≡ false
none_at_boot roots [] n = refl
none_at_boot roots (m ∷ ns) zero = refl
none_at_boot roots (m ∷ ns) (suc n) = none_at_boot roots ns n

lost_in : (system : System) (log : List Entry) (k : ClusterNo) → IsLegalBy Stands system log → is_lost_in (placement system log) k ≡ true → was_lost_in log k ≡ true
unfolding placement
lost_in system log k legal =
    legal_induction Stands system (λ log. is_lost_in (placement system log) k ≡ true → was_lost_in log k ≡ true) (λ lost. absurd (true≢false (sym lost ∙ none_at_boot (map placed_root (roots_of system)) (range_with_len 0 system.clusters) k.0)))
    (λ log e more stands lost.
    list_any-append (λ (e : Entry). is_crash_of k (what e)) log (e ∷ []) ∙ by_last log e more (lost_by (what e) (placement system log) k (ap (λ (p : Places). is_lost_in p k) (sym (placement-snoc system log e)) ∙ lost))) log legal
  where
    by_last : (log : List Entry) (e : Entry) → (is_lost_in (placement system log) k ≡ true → was_lost_in log k ≡ true) → (is_lost_in (placement system log) k || is_crash_of k (what e)) ≡ true → (was_lost_in log k || (is_crash_of k (what e) || false)) ≡ true
    by_last log e more = by_tests (is_lost_in (placement system log) k) (is_crash_of k (what e)) (was_lost_in log k) more
      where
        by_tests : (a b c : Bool) → (a ≡ true → c ≡ true) → (a || b) ≡ true → (c || (b || false)) ≡ true
        by_tests true b c more some = ap (λ c. c || (b || false)) (more refl)
        by_tests false true c more some = second c true refl
        by_tests false false c more some = absurd (true≢false (sym some))

-- ---- nobody is there

none_home : (system : System) (log : List Entry) (e : Entry) (k : ClusterNo) → is_system system ≡ true → IsLegalBy Stands system (log ++ e ∷ []) → what e ≡ Return k → home_pids system (log ++ e ∷ []) k ≡ []
none_home system log e k valid legal is = by_pids (home_pids system (log ++ e ∷ []) k) refl
  where
    by_pids : (ns : List ℕ) → home_pids system (log ++ e ∷ []) k ≡ ns → ns ≡ []
    by_pids [] same = refl
    by_pids (n ∷ ns) same =
        let p : Pid = record { 0 = n } in
        let there : HomeHere (placement system (log ++ e ∷ [])) p k =
        home_here (placement system (log ++ e ∷ [])) k (n ∷ ns) p (differ_of _ (two_apart system (log ++ e ∷ []) (all_roll Stands itself system (log ++ e ∷ []) valid legal))) (ap rising (sym same)) (ap (λ b. b || list_any (λ m. eqb m n) ns) (eq-eqb n n refl)) in
        absurd (true≢false (sym there.home ∙ returned_home system log e k valid legal is p there.placed there.found))

-- so nobody waits there for a new backup
none_owed : (system : System) (log : List Entry) (e : Entry) (k : ClusterNo) → is_system system ≡ true → IsLegalBy Stands system (log ++ e ∷ []) → what e ≡ Return k → AreOwed system (log ++ e ∷ []) k []
none_owed system log e k valid legal is p = sym (by_found (unended_at (placement system (log ++ e ∷ [])) p) refl)
  where
    by_found : (o : Option Placed) → unended_at (placement system (log ++ e ∷ [])) p ≡ o → is_owed system (log ++ e ∷ []) k p ≡ false
    by_found None found = ap (λ o. option_map_or (λ (q : Placed). same_cluster q.home k) o false && not (has_awaited_backup system (log ++ e ∷ []) p)) found
    by_found (Some q) found =
        ap (λ o. option_map_or (λ (q : Placed). same_cluster q.home k) o false && not (has_awaited_backup system (log ++ e ∷ []) p)) found
        ∙ ap (λ b. b && not (has_awaited_backup system (log ++ e ∷ []) p)) (returned_home system log e k valid legal is p q found)

-- ---- it follows the log

lost : (system : System) (log : List Entry) (e : Entry) (k : ClusterNo) → IsLegalBy Stands system (log ++ e ∷ []) → what e ≡ Return k → was_lost_in (log ++ e ∷ []) k ≡ true
lost system log e k legal is =
    list_any-append (λ (e : Entry). is_crash_of k (what e)) log (e ∷ [])
    ∙ first (was_lost_in log k) (is_crash_of k (what e) || false) (lost_in system log k (IsLegal-before Stands system log e legal) (subst (KindHolds system log e) is (IsLegal-last Stands system log e legal).kind))

pub returned_follows : (system : System) (log : List Entry) (e : Entry) (k : ClusterNo) (steps : ℕ) → is_system system ≡ true → IsLegalBy Stands system (log ++ e ∷ []) → what e ≡ Return k
    → Follows system (log ++ e ∷ []) (returned system k (placement system (log ++ e ∷ [])) (unsynced_births system (log ++ e ∷ [])) (length (log ++ e ∷ [])) steps)
returned_follows system log e k steps valid legal is = record {
  log = record { cursor = refl; places = refl };
  processes = record { held = λ p h there. cc; each_once = ap rising (sym (none_home system log e k valid legal is)) };
  queue = record { own = refl; legal = tt };
  queued = inl (record { queued = Nothing; posts = refl; together = tt });
  steps = record { counted = λ stays. absurd (true≢false (sym (lost system log e k legal is) ∙ stays)) };
  limits = λ p h there. cc;
  pages = λ p h there has. cc;
  marks = λ p h there. cc;
  records = returned_records system log e k valid legal is;
  family = refl;
  owed = none_owed system log e k valid legal is;
  backups = λ p h there begun. cc;
  forks = λ parent child q h there here born. cc;
  accounts = record { keeps = tt; there = λ stays serves. absurd (true≢false (sym (lost system log e k legal is) ∙ stays)); calls = λ stays serves. absurd (true≢false (sym (lost system log e k legal is) ∙ stays)) };
  disk = (refl, tt);
}
