-- When a loss and a stop may stand next.
use Rattle.std.proofs.Common.{◌≡◌, ℕ, ◌<◌, refl, sym, ◌∙◌, ap, subst, arith, List, ◌∷◌, ◌++◌, [], length, Bool, true, false, not, ◌&&◌, eqb, eqb-true, eq-eqb, Option, Some, None, is_some, true≢false}
use Rattle.std.specs.Prelude.{slice_get}
use Rattle.std.specs.Option.{option_map_or}
use Rattle.std.proofs.lemmas.Bool.{and_parts}
use Rattle.std.proofs.lemmas.Option.{slice_get_within}
use Rattle.t32_base.specs.declared.process.ClusterNo.{ClusterNo}
use Rattle.sys_text.specs.declared.system.System.{System}
use Rattle.bus_msg.specs.declared.entry.What.{What}
use Rattle.bus_msg.specs.declared.entry.What.TheVariants.{Crash, Stop}
use Rattle.bus_msg.specs.declared.entry.Cause.{Cause}
use Rattle.bus_msg.specs.declared.entry.By.TheVariants.{Bus}
use Rattle.bus_msg.specs.declared.entry.Entry.{Entry}
use Rattle.bus_msg.specs.Places.{ClusterPlace, Places, lives_in}
use Rattle.bus_msg.specs.PlacedAfter.{what}
use Rattle.bus_msg.specs.Route.{route}
use Rattle.plain_kernel.specs.Kernel.{Kernel}
use Rattle.cert_sched.specs.Schedule.{items_of, placement, plain_after}
use Rattle.cert_sched.specs.Rules.{is_bus, is_by_right, is_over}
use Rattle.cert_sched.specs.Kinds.{KindHolds}
use Rattle.cert_sched.specs.Legal.{IsLegalBy, Stands, MayStand}
use Rattle.cert_sched.proofs.LogLaws.{no_items}
use Rattle.cert_sched.proofs.ThereLaws.{plain_there}
use Rattle.cert_sched.proofs.FreshLaws.{numbered}
use Rattle.entry_lines.specs.declared.told.ToldBy.{ToldBy}
use Rattle.entry_lines.specs.declared.told.ToldBy.TheVariants.{Bus as ByBus}
use Rattle.entry_lines.specs.declared.told.ToldWhat.TheVariants.{Crash as ToldCrash, Stop as ToldStop}
use Rattle.entry_lines.specs.declared.told.Told.{Told}
use Rattle.entry_lines.specs.Told.{told_of}
use Rattle.line_laws.specs.Meant.{cluster_no}
use Rattle.log_audit.specs.Front.{FrontState, IsFrontOf, entry_at, is_bus_told, is_next}
use Rattle.log_audit.specs.Losses.{AnswersLine, loss_may, stop_may}
use Rattle.log_audit.proofs.Said.{loss_said, stop_said, bus_told, told_bus}

-- ---- it may stand next

not_true : (b : Bool) → not b ≡ true → b ≡ false
not_true true is = absurd (true≢false (sym is))
not_true false is = refl

pub applies : (system : System) (log : List Entry) (e : Entry) → IsLegalBy MayStand system log → ((k : Kernel) → items_of k (what e) ≡ []) → is_some (plain_after system (log ++ e ∷ [])) ≡ true
applies system log e legal none = ap is_some (no_items system log e none) ∙ plain_there MayStand (λ system log e may. may.stands) system log legal

-- an entry with the next place is placed in each log of which that is the front
pub next_placed : (f : FrontState) (place : ℕ) → is_next f place ≡ true → (system : System) (log : List Entry) (w : What) → IsFrontOf system log f
    → (place ≡ length log) × (route f.places w ≡ route (placement system log) w) × (is_over system log ≡ false)
next_placed f place next system log w front =
    let here = and_parts (eqb f.length place) (not f.over) next in (
      sym (eqb-true f.length place here.0) ∙ front.length,
      ap (λ (p : Places). route p w) front.places,
      sym front.over ∙ not_true f.over here.1,
    )

module _ (f : FrontState) (place : ℕ) (by : ToldBy) (may : stop_may f place by ≡ true) where
  pub parts : (is_next f place ≡ true) × (is_bus_told by ≡ true)
  parts = and_parts (is_next f place) (is_bus_told by) may

  pub stop_follows : AnswersLine f place by ToldStop (Some (entry_at f place (record { by = Bus; what = Stop })))
  stop_follows system log valid legal front =
      let e : Entry = entry_at f place (record { by = Bus; what = Stop }) in
      let sender : by ≡ ByBus = told_bus by parts.1 in (
        λ i. record { place = place; by = sym sender i; what = ToldStop },
        record {
          stands = record { placed = next_placed f place parts.0 system log Stop front; by_right = refl; applies = applies system log e legal (λ k. refl); kind = tt };
          limits = refl;
          new_page = refl;
          pages = refl;
        },
      )

pub loss_follows : (f : FrontState) (place : ℕ) (by : ToldBy) (k : ClusterNo) (cause : Cause) → loss_may f place by k ≡ true
    → AnswersLine f place by (ToldCrash k.0 cause) (Some (entry_at f place (record { by = Bus; what = Crash k cause })))
loss_follows f place by k cause may system log valid legal front =
    let both = and_parts (stop_may f place by) (lives_in f.places k) may in
    let e : Entry = entry_at f place (record { by = Bus; what = Crash k cause }) in
    let sender : by ≡ ByBus = told_bus by (parts f place by both.0).1 in (
      λ i. record { place = place; by = sym sender i; what = ToldCrash k.0 cause },
      record {
        stands = record {
          placed = next_placed f place (parts f place by both.0).0 system log (Crash k cause) front;
          by_right = refl;
          applies = applies system log e legal (λ k. refl);
          kind = ap (λ (p : Places). lives_in p k) (sym front.places) ∙ both.1;
        };
        limits = refl;
        new_page = refl;
        pages = refl;
      },
    )

-- ---- where it stands next the tests pass

pub next_passes : (system : System) (log : List Entry) (f : FrontState) (e : Entry) (place : ℕ) → IsFrontOf system log f → e.place ≡ place → Stands system log e → is_next f place ≡ true
next_passes system log f e place front at stands =
    let here : f.length ≡ place = front.length ∙ sym (stands.placed).0 ∙ at in
    let goes_on : f.over ≡ false = front.over ∙ (stands.placed).2 in
    ap (λ b. b && not f.over) (eq-eqb f.length place here) ∙ ap not goes_on

pub passes : (system : System) (log : List Entry) (f : FrontState) (e : Entry) (t : Told) → IsFrontOf system log f → told_of e ≡ t → Stands system log e → is_bus (e.post).by ≡ true → stop_may f t.place t.by ≡ true
passes system log f e t front line stands bus =
    let sender : is_bus_told t.by ≡ true = ap (λ (t : Told). is_bus_told t.by) (sym line) ∙ bus_told (e.post).by bus in
    ap (λ b. b && is_bus_told t.by) (next_passes system log f e t.place front (ap (λ (t : Told). t.place) line) stands) ∙ sender

pub below : (cs : List ClusterPlace) (k : ℕ) → option_map_or (λ (c : ClusterPlace). c.lives) (slice_get cs k) false ≡ true → k < length cs
below cs k lives = by_place (slice_get cs k) refl lives
  where
    by_place : (o : Option ClusterPlace) → slice_get cs k ≡ o → option_map_or (λ (c : ClusterPlace). c.lives) o false ≡ true → k < length cs
    by_place None is h = absurd (true≢false (sym h))
    by_place (Some c) is h = slice_get_within cs k c is

pub stop_refused : (f : FrontState) (place : ℕ) (by : ToldBy) → stop_may f place by ≡ false → AnswersLine f place by ToldStop None
stop_refused f place by refused system log e valid legal front line may =
    let said : what e ≡ Stop = stop_said (what e) (ap (λ (t : Told). t.what) line) in
    let bus : is_bus (e.post).by ≡ true = sym (ap (is_by_right (placement system log) (e.post).by) said) ∙ (may.stands).by_right in
    true≢false (sym (passes system log f e (record { place = place; by = by; what = ToldStop }) front line may.stands bus) ∙ refused)

pub loss_refused : (f : FrontState) (place : ℕ) (by : ToldBy) (k : ℕ) (cause : Cause) → (k < 16 → loss_may f place by (cluster_no k) ≡ false) → AnswersLine f place by (ToldCrash k cause) None
loss_refused f place by k cause refused system log e valid legal front line may =
    let said : what e ≡ Crash (cluster_no k) cause = loss_said (what e) k cause (ap (λ (t : Told). t.what) line) in
    let bus : is_bus (e.post).by ≡ true = sym (ap (is_by_right (placement system log) (e.post).by) said) ∙ (may.stands).by_right in
    let lives : lives_in (placement system log) (cluster_no k) ≡ true = subst (KindHolds system log e) said (may.stands).kind in
    let few = (numbered MayStand (λ system log e may. may.stands) system log valid legal).few in
    let within = below (placement system log).clusters k lives in
    let passed : loss_may f place by (cluster_no k) ≡ true = ap (λ b. b && lives_in f.places (cluster_no k)) (passes system log f e (record { place = place; by = by; what = ToldCrash k cause }) front line may.stands bus)
    ∙ ap (λ (p : Places). lives_in p (cluster_no k)) front.places ∙ lives in
    true≢false (sym passed ∙ refused (omega (arith, few, within)))
