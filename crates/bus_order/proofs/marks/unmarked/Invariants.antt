use Rattle.std.proofs.Common.{◌≡◌, None, replicate}
use Rattle.bus_order.proofs.marks.unmarked.Given as goal

abbrev pub invariant-loop : goal.invariant-loop
invariant-loop l = l.marks.items ≡ replicate l.counter None
