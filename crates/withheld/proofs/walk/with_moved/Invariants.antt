use Rattle.std.proofs.Common.{◌≡◌, ◌+◌, take}
use Rattle.std.specs.Prelude.{filter}
use Rattle.std.specs.List.{sum_by}
use Rattle.bus_msg.specs.declared.placed.Placed.{Placed}
use Rattle.bus_msg.specs.Places.{is_moved_by}
use Rattle.withheld.specs.Counts.{count_of}
use Rattle.withheld.proofs.walk.with_moved.Given as goal

abbrev pub invariant-loop-index : goal.invariant-loop-index
invariant-loop-index l = l.sum ≡ l.total + sum_by (λ (q : Placed). count_of l.counts q.pid) (filter (is_moved_by l.k) (take l.index (l.places).placed))
