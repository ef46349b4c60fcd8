use Rattle.std.proofs.Common.{arith}
use Rattle.bus_order.proofs.MarksLaws.{none_there}
use Rattle.bus_order.proofs.marks.clear.Goals as goal

pub returns : goal.returns
returns c = none_there c.loop-mark.marks c.args.marks.now c.loop-mark.auto.marks (λ k within. c.loop-mark.invariant k (omega (arith, within, c.loop-mark-test.false, c.loop-mark.auto.marks)))
