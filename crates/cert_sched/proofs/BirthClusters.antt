-- What a birth leaves of the clusters: which of them live, and which were lost; and what a return leaves.
use Rattle.std.proofs.Common.{◌≡◌, ℕ, zero, suc, refl, ap, List, [], ◌∷◌, Bool, false, not, Option, Some, None, slice_get}
use Rattle.std.specs.Prelude.{filter}
use Rattle.std.specs.Option.{option_map_or}
use Rattle.t32_base.specs.declared.process.Pid.{Pid}
use Rattle.t32_base.specs.declared.process.ClusterNo.{ClusterNo}
use Rattle.bus_msg.specs.declared.entry.By.{By}
use Rattle.bus_msg.specs.declared.entry.By.TheVariants.{Cluster, Bus}
use Rattle.bus_msg.specs.declared.entry.What.TheVariants.{Return}
use Rattle.bus_msg.specs.declared.placed.Placed.{Placed}
use Rattle.bus_msg.specs.Places.{ClusterPlace, Places, lives_in, servers_in}
use Rattle.bus_msg.specs.PlacedAfter.{changed_at, placed_after, raised_serial, returned_cluster, with_birth}
use Rattle.cert_sched.specs.Rules.{is_living}

-- a cluster with this number passes a test
abbrev passes_at : (ClusterPlace → Bool) → List ClusterPlace → ℕ → Bool
passes_at t clusters h = option_map_or t (slice_get clusters h) false

-- a change of one of them that leaves what is asked leaves it of each
module _ (t : ClusterPlace → Bool) (f : ClusterPlace → ClusterPlace) (same : (c : ClusterPlace) → t (f c) ≡ t c) where
  changed_keeps : (clusters : List ClusterPlace) (j h : ℕ) → passes_at t (changed_at j f (slice_get clusters j) clusters) h ≡ passes_at t clusters h
  changed_keeps [] j h = refl
  changed_keeps (c ∷ cs) zero zero = same c
  changed_keeps (c ∷ cs) zero (suc h) = refl
  changed_keeps (c ∷ cs) (suc j) h = by_found (slice_get cs j) h (λ i. changed_keeps cs j i)
    where
      by_found : (o : Option ClusterPlace) (h : ℕ) → ((i : ℕ) → passes_at t (changed_at j f o cs) i ≡ passes_at t cs i) → passes_at t (changed_at (suc j) f o (c ∷ cs)) h ≡ passes_at t (c ∷ cs) h
      by_found None h more = refl
      by_found (Some d) zero more = refl
      by_found (Some d) (suc i) more = more i

-- the next serial of one of them changes nothing that is asked of any of them but that
module _ (t : ClusterPlace → Bool) (same : (c : ClusterPlace) → t (raised_serial c) ≡ t c) where
  pub birth_keeps : (places : Places) (child : Pid) (o : Option Placed) (k : ClusterNo) → option_map_or t (slice_get (with_birth places child o).clusters k.0) false ≡ option_map_or t (slice_get places.clusters k.0) false
  birth_keeps places child None k = refl
  birth_keeps places child (Some q) k = changed_keeps t raised_serial same places.clusters (q.home).0 k.0

-- and a return nothing but whether it lives
pub return_keeps : (t : ClusterPlace → Bool) → ((c : ClusterPlace) → t (returned_cluster c) ≡ t c) → (places : Places) (j k : ClusterNo)
    → option_map_or t (slice_get (placed_after places (Return j)).clusters k.0) false ≡ option_map_or t (slice_get places.clusters k.0) false
return_keeps t same places j k = changed_keeps t returned_cluster same places.clusters j.0 k.0

-- the same live
pub birth_lives : (places : Places) (child : Pid) (o : Option Placed) (k : ClusterNo) → lives_in (with_birth places child o) k ≡ lives_in places k
birth_lives = birth_keeps (λ c. c.lives) (λ c. refl)

pub birth_living : (places : Places) (child : Pid) (o : Option Placed) (by : By) → is_living (with_birth places child o) by ≡ is_living places by
birth_living places child o (Cluster k) = birth_lives places child o k
birth_living places child o Bus = refl

-- and the same were lost, so the page servers are the same
pub birth_servers : (places : Places) (child : Pid) (o : Option Placed) → servers_in (with_birth places child o) ≡ servers_in places
birth_servers places child None = refl
birth_servers places child (Some q) = ap (λ t. filter t ((places.pager).0 ∷ (places.pager).1 ∷ [])) (λ i k. birth_keeps (λ c. not c.was_lost) (λ c. refl) places child (Some q) k i)
