use Rattle.std.proofs.Common.{◌∙◌}
use Rattle.bus_msg.specs.declared.entry.Cause.TheVariants.{Step}
use Rattle.bus_order.specs.Script.{has_unused}
use Rattle.bus_order.specs.View.{BusView}
use Rattle.cluster_turns.proofs.OwnLosses.{unused_left}
use Rattle.cluster_turns.proofs.lent.BusPort.names_step.Goals as goal

pub returns : goal.returns
returns c =
    let b : BusView = c.args.self.now in
    let v = c.args.cluster.now in
    c.unused.ensures.unused ∙ (λ i. has_unused b.left (c.number.ensures i) (Step (c.steps.ensures i))) ∙ unused_left b v.number (Step v.steps) c.unused.ensures.lawful.scripted
