use Rattle.bus_order.specs.View.{BusView}
use Rattle.cluster_turns.proofs.Growing.{adds_grown}
use Rattle.cluster_turns.proofs.lent.BusPort.offer.Goals as goal

pub returns-clause-grows : goal.returns-clause-grows
returns-clause-grows c =
    let b : BusView = c.args.self.now in
    let after : BusView = c.offer_to.new.bus in
    adds_grown c.args.cluster.now.number b after c.offer_to.ensures.adds
