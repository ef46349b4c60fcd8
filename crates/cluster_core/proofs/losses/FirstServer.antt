-- The first of the page servers that live is one of the two, and was never lost.
use Rattle.std.proofs.Common.{◌≡◌, ℕ, refl, sym, ◌∙◌, ap, subst, List, [], ◌∷◌, Bool, true, false, cond, not, ◌||◌, eqb, eqb-true, eq-eqb, Option, Some, None, true≢false}
use Rattle.std.specs.Prelude.{slice_get}
use Rattle.std.specs.Option.{option_map_or}
use Rattle.std.proofs.lemmas.List.Folds.{list_any-append}
use Rattle.t32_base.specs.declared.process.ClusterNo.{ClusterNo}
use Rattle.sys_text.specs.declared.system.System.{System}
use Rattle.bus_msg.specs.declared.entry.By.TheVariants.{Cluster}
use Rattle.bus_msg.specs.declared.entry.What.{What}
use Rattle.bus_msg.specs.declared.entry.What.TheVariants.{Birth, Crash, Return}
use Rattle.bus_msg.specs.declared.entry.Entry.{Entry}
use Rattle.bus_msg.specs.declared.placed.Placed.{Placed}
use Rattle.bus_msg.specs.Places.{ClusterPlace, Places, never_lost, placed_at, same_cluster, servers_in}
use Rattle.bus_msg.specs.PlacedAfter.{what, placed_after, changed_at, lost_cluster, with_birth}
use Rattle.cert_sched.specs.Parts.{first_of}
use Rattle.cert_sched.specs.Schedule.{placement}
use Rattle.cert_sched.specs.Rules.{is_by}
use Rattle.cert_sched.specs.Legal.{IsLegalBy, MayStand}
use Rattle.cert_sched.specs.Losses.{is_crash_of, was_lost_in}
use Rattle.cert_sched.specs.Scripted.{is_server}
use Rattle.cert_sched.proofs.BirthClusters.{birth_keeps, return_keeps}
use Rattle.cert_sched.proofs.FreshLaws.{kept_elsewhere, put_here}
use Rattle.cert_sched.proofs.Induction.{legal_induction}
use Rattle.cert_sched.proofs.LogLaws.{placement-snoc}
use Rattle.cert_sched.proofs.ServerLaws.{first_server}
use Rattle.cluster_core.specs.Work.{is_first_server}

-- ---- an entry

pub same_pager : (w : What) (places : Places) → (placed_after places w).pager ≡ places.pager
same_pager (Birth parent at child end) places = by_parent (placed_at places parent)
  where
    by_parent : (o : Option Placed) → (with_birth places child o).pager ≡ places.pager
    by_parent None = refl
    by_parent (Some q) = refl
same_pager _ places = refl

abbrev was_never : Option ClusterPlace → Bool
was_never o = option_map_or (λ (c : ClusterPlace). not c.was_lost) o false

-- the loss of a cluster is remembered
lost_now : (clusters : List ClusterPlace) (k : ℕ) → was_never (slice_get (changed_at k lost_cluster (slice_get clusters k) clusters) k) ≡ false
lost_now clusters k = by_place (slice_get clusters k) refl
  where
    by_place : (o : Option ClusterPlace) → slice_get clusters k ≡ o → was_never (slice_get (changed_at k lost_cluster o clusters) k) ≡ false
    by_place None there = ap was_never there
    by_place (Some c) there = ap was_never (put_here clusters k (lost_cluster c) c there)

-- a change of another leaves a cluster as it was
pub changed_other : (f : ClusterPlace → ClusterPlace) (clusters : List ClusterPlace) (j k : ℕ) → eqb j k ≡ false → slice_get (changed_at j f (slice_get clusters j) clusters) k ≡ slice_get clusters k
changed_other f clusters j k apart = by_place (slice_get clusters j)
  where
    by_place : (o : Option ClusterPlace) → slice_get (changed_at j f o clusters) k ≡ slice_get clusters k
    by_place None = refl
    by_place (Some c) = kept_elsewhere clusters j k (f c) (λ same. true≢false (sym (eq-eqb j k (sym same)) ∙ apart))

-- so does its loss
pub lost_other : (clusters : List ClusterPlace) (j k : ℕ) → eqb j k ≡ false → slice_get (changed_at j lost_cluster (slice_get clusters j) clusters) k ≡ slice_get clusters k
lost_other = changed_other lost_cluster

-- a cluster that was never lost was not before the entry, which is not its loss
pub record NeverBefore (places : Places) (w : What) (k : ClusterNo) : Type 0 where
  pub before : never_lost places k ≡ true
  pub no_loss : is_crash_of k w ≡ false

never_before : (w : What) (places : Places) (k : ClusterNo) → never_lost (placed_after places w) k ≡ true → NeverBefore places w k
never_before (Birth parent at child end) places k never = record { before = sym (birth_keeps (λ (c : ClusterPlace). not c.was_lost) (λ c. refl) places child (placed_at places parent) k) ∙ never; no_loss = refl }
never_before (Crash j cause) places k never = by_number (eqb j.0 k.0) refl
  where
    by_number : (b : Bool) → eqb j.0 k.0 ≡ b → NeverBefore places (Crash j cause) k
    by_number true same =
        let Lost : ℕ → Type 0 = λ n. was_never (slice_get (changed_at j.0 lost_cluster (slice_get places.clusters j.0) places.clusters) n) ≡ false in
        absurd (true≢false (sym never ∙ subst Lost (eqb-true j.0 k.0 same) (lost_now places.clusters j.0)))
    by_number false apart = record { before = ap was_never (sym (lost_other places.clusters j.0 k.0 apart)) ∙ never; no_loss = apart }
never_before (Return j) places k never = record { before = sym (return_keeps (λ (c : ClusterPlace). not c.was_lost) (λ c. refl) places j k) ∙ never; no_loss = refl }
never_before _ places k never = record { before = never; no_loss = refl }

-- ---- a log

-- the two page servers stay those of the system
pager_stays : (system : System) (log : List Entry) → IsLegalBy MayStand system log → (placement system log).pager ≡ system.pager
unfolding placement
pager_stays system log legal =
    legal_induction MayStand system (λ log. (placement system log).pager ≡ system.pager) refl
    (λ log e same may. ap (λ (p : Places). p.pager) (placement-snoc system log e) ∙ same_pager (what e) (placement system log) ∙ same) log legal

-- a cluster that the placement says was never lost has no loss in the log
never_in : (system : System) (log : List Entry) (k : ClusterNo) → IsLegalBy MayStand system log → never_lost (placement system log) k ≡ true → was_lost_in log k ≡ false
never_in system log k legal =
    legal_induction MayStand system (λ log. never_lost (placement system log) k ≡ true → was_lost_in log k ≡ false) (λ never. refl)
    (λ log e more may never.
    let b = never_before (what e) (placement system log) k (ap (λ (p : Places). never_lost p k) (sym (placement-snoc system log e)) ∙ never) in
    list_any-append (λ (e : Entry). is_crash_of k (what e)) log (e ∷ []) ∙ (λ i. more b.before i || (b.no_loss i || false))) log legal

-- ---- the first

-- it is one of the two
first_of_pair : (places : Places) (k : ClusterNo) → is_by (Cluster k) (first_of (servers_in places)) ≡ true → (same_cluster k (places.pager).0 || same_cluster k (places.pager).1) ≡ true
first_of_pair places k = by_tests (never_lost places (places.pager).0) (never_lost places (places.pager).1)
  where
    second : (a b : Bool) → b ≡ true → (a || b) ≡ true
    second true b is = refl
    second false b is = is

    by_tests : (b c : Bool) → is_by (Cluster k) (first_of (cond b ((places.pager).0 ∷ cond c ((places.pager).1 ∷ []) []) (cond c ((places.pager).1 ∷ []) []))) ≡ true
        → (same_cluster k (places.pager).0 || same_cluster k (places.pager).1) ≡ true
    by_tests true c is = ap (λ b. b || same_cluster k (places.pager).1) is
    by_tests false true is = second (same_cluster k (places.pager).0) (same_cluster k (places.pager).1) is
    by_tests false false is = absurd (true≢false (sym is))

-- as who sends an answer by right
pub first_by : (places : Places) (k : ClusterNo) → is_first_server places k ≡ true → is_by (Cluster k) (first_of (servers_in places)) ≡ true
first_by places k = by_first (first_of (servers_in places))
  where
    by_first : (o : Option ClusterNo) → option_map_or (λ s. same_cluster s k) o false ≡ true → is_by (Cluster k) o ≡ true
    by_first None is = absurd (true≢false (sym is))
    by_first (Some s) is = eq-eqb k.0 s.0 (sym (eqb-true s.0 k.0 is))

pub record FirstServes (system : System) (log : List Entry) (k : ClusterNo) : Type 0 where
  pub unlost : was_lost_in log k ≡ false
  pub server : is_server system k ≡ true

-- in a log that may stand
pub first_serves : (system : System) (log : List Entry) (k : ClusterNo) → IsLegalBy MayStand system log → is_by (Cluster k) (first_of (servers_in (placement system log))) ≡ true → FirstServes system log k
first_serves system log k legal first = record {
  unlost = never_in system log k legal (first_server (placement system log) k first);
  server = ap (λ pager. same_cluster k pager.0 || same_cluster k pager.1) (sym (pager_stays system log legal)) ∙ first_of_pair (placement system log) k first;
}
