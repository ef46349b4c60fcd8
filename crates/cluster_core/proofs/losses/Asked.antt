-- A change of one cluster leaves the answer to a question that it does not change, of each cluster.
use Rattle.std.proofs.Common.{◌≡◌, ℕ, zero, suc, refl, List, [], ◌∷◌, false, not, Option, Some, None, slice_get}
use Rattle.std.specs.Prelude.{filter}
use Rattle.std.specs.Option.{option_map_or}
use Rattle.t32_base.specs.declared.process.ClusterNo.{ClusterNo}
use Rattle.bus_msg.specs.declared.entry.What.TheVariants.{Return}
use Rattle.bus_msg.specs.Places.{ClusterPlace, Places, servers_in}
use Rattle.bus_msg.specs.PlacedAfter.{changed_at, placed_after, returned_cluster}

pub asked_kept : {X : Type 0} (t : ClusterPlace → X) (d : X) (f : ClusterPlace → ClusterPlace) → ((c : ClusterPlace) → t (f c) ≡ t c) → (clusters : List ClusterPlace) (j n : ℕ)
    → option_map_or t (slice_get (changed_at j f (slice_get clusters j) clusters) n) d ≡ option_map_or t (slice_get clusters n) d
asked_kept t d f same [] j n = refl
asked_kept t d f same (c ∷ cs) zero zero = same c
asked_kept t d f same (c ∷ cs) zero (suc n) = refl
asked_kept t d f same (c ∷ cs) (suc j) n = by_found (slice_get cs j) n (λ i. asked_kept t d f same cs j i)
  where
    by_found : (o : Option ClusterPlace) (n : ℕ) → ((i : ℕ) → option_map_or t (slice_get (changed_at j f o cs) i) d ≡ option_map_or t (slice_get cs i) d)
        → option_map_or t (slice_get (changed_at (suc j) f o (c ∷ cs)) n) d ≡ option_map_or t (slice_get (c ∷ cs) n) d
    by_found None n more = refl
    by_found (Some x) zero more = refl
    by_found (Some x) (suc i) more = more i

-- so a return leaves the page servers
pub servers_returned : (places : Places) (j : ClusterNo) → servers_in (placed_after places (Return j)) ≡ servers_in places
servers_returned places j = λ i. filter (λ (s : ClusterNo). asked_kept (λ (c : ClusterPlace). not c.was_lost) false returned_cluster (λ c. refl) places.clusters j.0 s.0 i) ((places.pager).0 ∷ (places.pager).1 ∷ [])
