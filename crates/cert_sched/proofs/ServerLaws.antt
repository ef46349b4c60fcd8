-- A page server lives: it was never lost.
use Rattle.std.proofs.Common.{◌≡◌, ℕ, zero, suc, refl, sym, ◌∙◌, ap, subst, List, [], ◌∷◌, map, Bool, true, false, cond, not, ◌||◌, eqb, eqb-true, eq-eqb, Option, Some, None, true≢false}
use Rattle.std.specs.Prelude.{slice_get, filter}
use Rattle.std.specs.Option.{option_map_or}
use Rattle.t32_base.specs.declared.process.ClusterNo.{ClusterNo}
use Rattle.t32_base.proofs.Facts.{or_true}
use Rattle.sys_text.specs.declared.system.System.{System}
use Rattle.sys_text.specs.Boot.{roots_of}
use Rattle.bus_msg.specs.declared.entry.By.TheVariants.{Cluster}
use Rattle.bus_msg.specs.declared.entry.What.{What}
use Rattle.bus_msg.specs.declared.entry.What.TheVariants.{Birth, Crash, Return}
use Rattle.bus_msg.specs.declared.entry.Entry.{Entry}
use Rattle.bus_msg.specs.declared.placed.Placed.{Placed}
use Rattle.bus_msg.specs.Places.{ClusterPlace, Places, boot_cluster, lives_in, never_lost, placed_at, servers_in}
use Rattle.bus_msg.specs.PlacedAfter.{what, placed_after, placement_after, changed_at, lost_cluster, raised_serial, returned_cluster, with_birth}
use Rattle.cert_sched.specs.Parts.{first_of}
use Rattle.cert_sched.specs.Schedule.{placement, placed_root}
use Rattle.cert_sched.specs.Rules.{is_by}
use Rattle.cert_sched.proofs.FreshLaws.{kept_elsewhere, put_here}

-- a cluster that was never lost lives
abbrev serves : Option ClusterPlace → Bool
serves o = option_map_or (λ (c : ClusterPlace). c.was_lost || c.lives) o true

abbrev Served : List ClusterPlace → Type 0
Served clusters = (n : ℕ) → serves (slice_get clusters n) ≡ true

-- one cluster changed
changed : (f : ClusterPlace → ClusterPlace) → ((c : ClusterPlace) → serves (Some c) ≡ true → serves (Some (f c)) ≡ true) → (clusters : List ClusterPlace) (j : ℕ) → Served clusters → Served (changed_at j f (slice_get clusters j) clusters)
changed f keeps clusters j all n = by_number (eqb j n) refl
  where
    by_number : (b : Bool) → eqb j n ≡ b → serves (slice_get (changed_at j f (slice_get clusters j) clusters) n) ≡ true
    by_number true same = subst (λ m. serves (slice_get (changed_at j f (slice_get clusters j) clusters) m) ≡ true) (eqb-true j n same) (here (slice_get clusters j) refl)
      where
        here : (o : Option ClusterPlace) → slice_get clusters j ≡ o → serves (slice_get (changed_at j f o clusters) j) ≡ true
        here None there = all j
        here (Some c) there = ap serves (put_here clusters j (f c) c there) ∙ keeps c (ap serves (sym there) ∙ all j)
    by_number false apart = elsewhere (slice_get clusters j)
      where
        elsewhere : (o : Option ClusterPlace) → serves (slice_get (changed_at j f o clusters) n) ≡ true
        elsewhere None = all n
        elsewhere (Some c) = ap serves (kept_elsewhere clusters j n (f c) (λ e. true≢false (sym (eq-eqb j n (sym e)) ∙ apart))) ∙ all n

served_more : (places : Places) (w : What) → Served places.clusters → Served (placed_after places w).clusters
served_more places (Birth parent at child end) all = by_parent (placed_at places parent)
  where
    by_parent : (o : Option Placed) → Served (with_birth places child o).clusters
    by_parent None = all
    by_parent (Some q) = changed raised_serial (λ c h. h) places.clusters (q.home).0 all
served_more places (Crash k cause) all = changed lost_cluster (λ c h. refl) places.clusters k.0 all
served_more places (Return k) all = changed returned_cluster (λ c h. or_true c.was_lost) places.clusters k.0 all
served_more places _ all = all

served_after : (log : List Entry) (places : Places) → Served places.clusters → Served (placement_after places log).clusters
served_after [] places all = all
served_after (e ∷ log) places all = served_after log (placed_after places (what e)) (served_more places (what e) all)

served_at_boot : (placed : List Placed) (numbers : List ℕ) → Served (map (boot_cluster placed) numbers)
served_at_boot placed [] n = refl
served_at_boot placed (m ∷ numbers) zero = refl
served_at_boot placed (m ∷ numbers) (suc n) = served_at_boot placed numbers n

-- in any log, a cluster that was never lost lives
pub servers_live : (system : System) (log : List Entry) (k : ClusterNo) → never_lost (placement system log) k ≡ true → lives_in (placement system log) k ≡ true
unfolding placement
servers_live system log k = lives (slice_get (placement system log).clusters k.0) (all k.0)
  where
    all : Served (placement system log).clusters
    all = served_after log (placement system []) (served_at_boot (map placed_root (roots_of system)) _)

    lives : (o : Option ClusterPlace) → serves o ≡ true → option_map_or (λ (c : ClusterPlace). not c.was_lost) o false ≡ true → option_map_or (λ (c : ClusterPlace). c.lives) o false ≡ true
    lives None h never = never
    lives (Some c) h never = by_lost c.was_lost refl
      where
        by_lost : (b : Bool) → c.was_lost ≡ b → c.lives ≡ true
        by_lost true is = absurd (true≢false (sym never ∙ ap not is))
        by_lost false is = sym (ap (λ b. b || c.lives) is) ∙ h

-- the first page server was never lost
pub first_server : (places : Places) (k : ClusterNo) → is_by (Cluster k) (first_of (servers_in places)) ≡ true → never_lost places k ≡ true
first_server places k = by_first (never_lost places (places.pager).0) refl
  where
    same : (j : ClusterNo) → eqb k.0 j.0 ≡ true → never_lost places j ≡ true → never_lost places k ≡ true
    same j is never = subst (λ (c : ClusterNo). never_lost places c ≡ true) (λ i. record { 0 = sym (eqb-true k.0 j.0 is) i }) never

    by_second : (b : Bool) → never_lost places (places.pager).1 ≡ b → is_by (Cluster k) (first_of (cond b ((places.pager).1 ∷ []) [])) ≡ true → never_lost places k ≡ true
    by_second true never is = same (places.pager).1 is never
    by_second false lost is = absurd (true≢false (sym is))

    by_first : (b : Bool) → never_lost places (places.pager).0 ≡ b → is_by (Cluster k) (first_of (cond b ((places.pager).0 ∷ filter (never_lost places) ((places.pager).1 ∷ [])) (filter (never_lost places) ((places.pager).1 ∷ [])))) ≡ true
        → never_lost places k ≡ true
    by_first true never is = same (places.pager).0 is never
    by_first false lost is = by_second (never_lost places (places.pager).1) refl is
