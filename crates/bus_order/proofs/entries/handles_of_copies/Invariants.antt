use Rattle.std.proofs.Common.{◌≡◌, map, drop, take}
use Rattle.std.specs.Arc.{arc_value}
use Rattle.bus_order.proofs.entries.handles_of_copies.Given as goal

abbrev pub invariant-loop-place : goal.invariant-loop-place
invariant-loop-place l = map arc_value l.news.items ≡ drop l.from (take l.place l.entries.items)
