use Rattle.std.proofs.Common.{◌≡◌, ◌-◌, ◌&&◌, not, find, length, map}
use Rattle.std.specs.List.{range_with_len}
use Rattle.bus_msg.specs.Places.{cluster_no, lives_in, same_cluster}
use Rattle.bus_msg.specs.NewBackup.{lowest_other}
use Rattle.backup_mode.proofs.next.lowest_other.Given as goal

-- it is among the clusters that were not looked at
abbrev pub invariant-loop-number : goal.invariant-loop-number
invariant-loop-number l =
    lowest_other l.places l.home ≡ find (λ k. lives_in l.places k && not (same_cluster k l.home)) (map cluster_no (range_with_len l.number (length l.places.clusters - l.number)))
