-- Who is at home in a cluster after the birth of a child.
use Rattle.std.proofs.Common.{◌≡◌, ◌∙◌, ap, refl, [], ◌∷◌, ◌++◌, map, append-nil, false, true, cond, not, ◌&&◌, Option, Some, None}
use Rattle.std.specs.Prelude.{filter, find}
use Rattle.std.specs.Option.{option_or}
use Rattle.std.proofs.lemmas.List.Elements.{filter-append}
use Rattle.std.proofs.lemmas.List.Folds.{find-append}
use Rattle.std.proofs.lemmas.List.{map-append}
use Rattle.t32_base.specs.declared.process.Pid.{Pid}
use Rattle.t32_base.specs.declared.process.ClusterNo.{ClusterNo}
use Rattle.bus_msg.specs.declared.placed.Placed.{Placed}
use Rattle.bus_msg.specs.Places.{Places, same_cluster, same_pid}
use Rattle.bus_msg.specs.PlacedAfter.{child_of, with_birth}
use Rattle.cluster_core.proofs.losses.Homes.{HomeHere, pids_home}

-- one that was there is where it was
pub birth_home : (places : Places) (child p : Pid) (k : ClusterNo) (o : Option Placed) → HomeHere places p k → HomeHere (with_birth places child o) p k
birth_home places child p k None here = here
birth_home places child p k (Some q) here = record {
  placed = here.placed;
  found =
      find-append (λ (r : Placed). same_pid r.pid p && not r.ended) places.placed (child_of q child ∷ [])
      ∙ ap (λ f. option_or f (find (λ (r : Placed). same_pid r.pid p && not r.ended) (child_of q child ∷ []))) here.found;
  home = here.home;
}

-- where the parent's home is another, the same are at home
pub child_elsewhere : (k : ClusterNo) (places : Places) (child : Pid) (o : Option Placed) → ((q : Placed) → o ≡ Some q → same_cluster q.home k ≡ false) → pids_home k (with_birth places child o).placed ≡ pids_home k places.placed
child_elsewhere k places child None away = refl
child_elsewhere k places child (Some q) away =
    ap (λ qs. map (λ (q : Placed). (q.pid).0) qs) (filter-append (λ (r : Placed). same_cluster r.home k && not r.ended) places.placed (child_of q child ∷ []))
    ∙ ap (λ b. map (λ (q : Placed). (q.pid).0) (filter (λ (r : Placed). same_cluster r.home k && not r.ended) places.placed ++ cond (b && true) (child_of q child ∷ []) [])) (away q refl)
    ∙ ap (λ qs. map (λ (q : Placed). (q.pid).0) qs) (append-nil (filter (λ (r : Placed). same_cluster r.home k && not r.ended) places.placed))

-- where it is this one, so is the child, behind those that were
pub child_here : (k : ClusterNo) (places : Places) (child : Pid) (q : Placed) → same_cluster q.home k ≡ true → pids_home k (with_birth places child (Some q)).placed ≡ pids_home k places.placed ++ child.0 ∷ []
child_here k places child q home =
    ap (λ qs. map (λ (q : Placed). (q.pid).0) qs) (filter-append (λ (r : Placed). same_cluster r.home k && not r.ended) places.placed (child_of q child ∷ []))
    ∙ ap (λ b. map (λ (q : Placed). (q.pid).0) (filter (λ (r : Placed). same_cluster r.home k && not r.ended) places.placed ++ cond (b && true) (child_of q child ∷ []) [])) home
    ∙ map-append (λ (q : Placed). (q.pid).0) (filter (λ (r : Placed). same_cluster r.home k && not r.ended) places.placed) (child_of q child ∷ [])
