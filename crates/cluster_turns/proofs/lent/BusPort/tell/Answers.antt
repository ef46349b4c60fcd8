use Rattle.bus_order.specs.View.{BusView}
use Rattle.cluster_turns.proofs.Growing.{adds_grown}
use Rattle.cluster_turns.proofs.lent.BusPort.tell.Goals as goal

pub returns-clause-grows : goal.returns-clause-grows
returns-clause-grows c =
    let b : BusView = c.args.self.now in
    let after : BusView = c.tell_to.new.bus in
    adds_grown c.args.cluster.now.number b after c.tell_to.ensures.adds
