use Rattle.std.proofs.Common.{◌≡◌, map}
use Rattle.std.specs.List.{range_with_len}
use Rattle.bus_msg.specs.Places.{boot_cluster}
use Rattle.channel_table.proofs.placement.clusters_at_boot.Given as goal

abbrev pub invariant-loop-k : goal.invariant-loop-k
invariant-loop-k l = l.placed.items ≡ map (boot_cluster l.roots) (range_with_len 0 l.k)
