-- The search for the lowest living cluster that is not the home, cluster by cluster.
use Rattle.std.proofs.Common.{◌≡◌, ℕ, suc, ◌+◌, ◌-◌, ◌<◌, Bool, false, cond, not, ◌&&◌, find, length, map, Some, ap, ◌∙◌, arith}
use Rattle.std.specs.List.{range_with_len}
use Rattle.t32_base.specs.declared.process.ClusterNo.{ClusterNo}
use Rattle.bus_msg.specs.Places.{Places, cluster_no, lives_in, same_cluster}

-- a living cluster that is not the home
abbrev pub is_other : Places → ClusterNo → ClusterNo → Bool
is_other places home k = lives_in places k && not (same_cluster k home)

-- one that is not such a cluster is passed over
pub one_passed : (places : Places) (home : ClusterNo) (number : ℕ) → number < length places.clusters → is_other places home (cluster_no number) ≡ false
    → find (is_other places home) (map cluster_no (range_with_len number (length places.clusters - number)))
    ≡ find (is_other places home) (map cluster_no (range_with_len (number + 1) (length places.clusters - (number + 1))))
one_passed places home number within fails =
    let rest = find (is_other places home) (map cluster_no (range_with_len (number + 1) (length places.clusters - (number + 1)))) in
    let one : length places.clusters - number ≡ suc (length places.clusters - (number + 1)) = omega arith in
    ap (λ m. find (is_other places home) (map cluster_no (range_with_len number m))) one
    ∙ ap (λ b. cond b (Some (cluster_no number)) rest) fails
