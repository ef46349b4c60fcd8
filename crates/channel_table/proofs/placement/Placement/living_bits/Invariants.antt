use Rattle.std.proofs.Common.{◌≡◌, ◌-◌, map, length}
use Rattle.std.specs.List.{range_with_len}
use Rattle.bus_msg.specs.Places.{cluster_no}
use Rattle.bus_msg.specs.Route.{bits_of}
use Rattle.channel_table.proofs.placement.Placement.living_bits.Given as goal

abbrev pub invariant-loop-k : goal.invariant-loop-k
invariant-loop-k l = l.bits ≡ bits_of l.self (map cluster_no (range_with_len l.k (length l.self.clusters - l.k)))
