-- When a cluster may return next.
use Rattle.std.proofs.Common.{◌≡◌, ℕ, ◌<◌, refl, sym, ◌∙◌, ap, subst, arith, List, length, Bool, true, false, not, ◌&&◌, ltb, get_or, ◌⊎◌, inl, inr, ◌≤◌, Option, Some, None, true≢false}
use Rattle.std.specs.Prelude.{slice_get}
use Rattle.std.specs.Option.{option_map_or}
use Rattle.std.proofs.lemmas.Bool.{and_parts}
use Rattle.std.proofs.lemmas.Bool.Decides.{nat_tests}
use Rattle.std.proofs.lemmas.Option.{slice_get_cases}
use Rattle.t32_base.specs.declared.process.ClusterNo.{ClusterNo}
use Rattle.bus_msg.specs.declared.entry.What.{What}
use Rattle.bus_msg.specs.declared.entry.What.TheVariants.{Rebackup, Return}
use Rattle.bus_msg.specs.declared.entry.By.TheVariants.{Bus}
use Rattle.bus_msg.specs.declared.entry.Entry.{Entry}
use Rattle.bus_msg.specs.Places.{ClusterPlace, Places, is_lost_in}
use Rattle.bus_msg.specs.PlacedAfter.{what}
use Rattle.cert_sched.specs.Schedule.{placement}
use Rattle.cert_sched.specs.Rules.{is_bus, is_by_right}
use Rattle.cert_sched.specs.Kinds.{KindHolds}
use Rattle.cert_sched.specs.Legal.{MayStand}
use Rattle.cert_sched.proofs.FreshLaws.{numbered}
use Rattle.entry_lines.specs.declared.told.ToldBy.{ToldBy}
use Rattle.entry_lines.specs.declared.told.ToldBy.TheVariants.{Bus as ByBus}
use Rattle.entry_lines.specs.declared.told.ToldWhat.TheVariants.{Return as ToldReturn}
use Rattle.entry_lines.specs.declared.told.Told.{Told}
use Rattle.entry_lines.specs.Told.{told_what}
use Rattle.line_laws.specs.Meant.{cluster_no}
use Rattle.log_audit.specs.Front.{FrontState, entry_at}
use Rattle.log_audit.specs.Losses.{stop_may}
use Rattle.log_audit.proofs.Losing.{applies, next_placed, parts, passes}
use Rattle.log_audit.proofs.Said.{told_bus}
use Rattle.log_renewals.specs.Returns.{AnswersReturn, return_may}

-- ---- a cluster that is lost

below : (n m : ℕ) → n < m → ltb n m ≡ true
below n m is = grind (arith, nat_tests)

not_below : (n m : ℕ) → (n < m → ⊥) → ltb n m ≡ false
not_below n m none = by_test (ltb n m) refl
  where
    above : ltb n m ≡ true → n < m
    above is = grind (arith, nat_tests)

    by_test : (b : Bool) → ltb n m ≡ b → b ≡ false
    by_test false is = refl
    by_test true is = absurd (none (above is))

-- it is one of the system, and does not live
abbrev IsLost : List ClusterPlace → ℕ → Option ClusterPlace → Type 0
IsLost cs k o = (ltb k (length cs) && not (option_map_or (λ (c : ClusterPlace). c.lives) o false)) ≡ option_map_or (λ (c : ClusterPlace). not c.lives) o false

pub lost_is : (cs : List ClusterPlace) (k : ℕ) → IsLost cs k (slice_get cs k)
lost_is cs k = by_place (slice_get_cases cs k).1
  where
    by_place : ((c : ClusterPlace) × (k < length cs) × (slice_get cs k ≡ Some c) × (get_or cs k c ≡ c)) ⊎ ((length cs ≤ k) × (slice_get cs k ≡ None))
        → IsLost cs k (slice_get cs k)
    by_place (inl there) = subst (IsLost cs k) (sym there.2) (ap (λ b. b && not (there.0).lives) (below k (length cs) there.1))
    by_place (inr past) = let beyond = past.0 in subst (IsLost cs k) (sym past.1)
        (ap (λ b. b && true) (not_below k (length cs) (λ less. absurd (omega (arith, less, beyond)))))

pub lost_within : (cs : List ClusterPlace) (k : ℕ) → option_map_or (λ (c : ClusterPlace). not c.lives) (slice_get cs k) false ≡ true → k < length cs
lost_within cs k lost = within (and_parts (ltb k (length cs)) (not (option_map_or (λ (c : ClusterPlace). c.lives) (slice_get cs k) false)) (lost_is cs k
    ∙ lost)).0
  where
    within : ltb k (length cs) ≡ true → k < length cs
    within is = grind (arith, nat_tests)

-- ---- its return

pub return_follows : (f : FrontState) (place : ℕ) (by : ToldBy) (k : ClusterNo) → return_may f place by k ≡ true
    → AnswersReturn f place by k.0 (Some (entry_at f place (record { by = Bus; what = Return k })))
return_follows f place by k may system log valid legal front =
    let both = and_parts (stop_may f place by) (is_lost_in f.places k) may in
    let e : Entry = entry_at f place (record { by = Bus; what = Return k }) in
    let sender : by ≡ ByBus = told_bus by (parts f place by both.0).1 in (
      λ i. record { place = place; by = sym sender i; what = ToldReturn k.0 },
      record {
        stands = record {
          placed = next_placed f place (parts f place by both.0).0 system log (Return k) front;
          by_right = refl;
          applies = applies system log e legal (λ k. refl);
          kind = ap (λ (p : Places). is_lost_in p k) (sym front.places) ∙ both.1;
        };
        limits = refl;
        new_page = refl;
        pages = refl;
      },
    )

return_said : (w : What) (k : ℕ) → told_what w ≡ ToldReturn k → w ≡ Return (cluster_no k)
return_said (Return j) k line =
    let same : j.0 ≡ k = cc in
    λ i. Return (record { 0 = same i })
return_said (Rebackup to true recs) k line = cc
return_said (Rebackup to false recs) k line = cc
return_said _ k line = cc

pub return_refused : (f : FrontState) (place : ℕ) (by : ToldBy) (k : ℕ) → (k < 16 → return_may f place by (cluster_no k) ≡ false)
    → AnswersReturn f place by k None
return_refused f place by k refused system log e valid legal front line may =
    let said : what e ≡ Return (cluster_no k) = return_said (what e) k (ap (λ (t : Told). t.what) line) in
    let bus : is_bus (e.post).by ≡ true = sym (ap (is_by_right (placement system log) (e.post).by) said) ∙ (may.stands).by_right in
    let lost : is_lost_in (placement system log) (cluster_no k) ≡ true = subst (KindHolds system log e) said (may.stands).kind in
    let few = (numbered MayStand (λ system log e may. may.stands) system log valid legal).few in
    let within = lost_within (placement system log).clusters k lost in
    let passed : return_may f place by (cluster_no k) ≡ true = ap (λ b. b && is_lost_in f.places (cluster_no k))
    (passes system log f e (record { place = place; by = by; what = ToldReturn k }) front line may.stands bus)
    ∙ ap (λ (p : Places). is_lost_in p (cluster_no k)) front.places ∙ lost in
    true≢false (sym passed ∙ refused (omega (arith, few, within)))
