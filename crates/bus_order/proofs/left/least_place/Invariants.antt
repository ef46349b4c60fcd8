use Rattle.std.proofs.Common.{◌≡◌, take}
use Rattle.bus_order.specs.Left.{least_place}
use Rattle.bus_order.proofs.left.least_place.Given as goal

abbrev pub invariant-loop-word : goal.invariant-loop-word
invariant-loop-word l = l.least ≡ least_place (take l.word-index l.words)
