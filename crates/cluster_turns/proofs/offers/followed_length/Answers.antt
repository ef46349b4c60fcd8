use Rattle.std.proofs.Common.{◌∙◌, sym, arith}
use Rattle.bus_order.proofs.Lawful.{lawful_stands}
use Rattle.bus_order.specs.View.{BusView}
use Rattle.bus_order.proofs.OverLaws.{over_long}
use Rattle.cluster_turns.proofs.offers.followed_length.Goals as goal

pub overflow_sub-result : goal.overflow_sub-result
overflow_sub-result c =
    let b : BusView = c.args.bus.now in
    let long = over_long b.system b.log (lawful_stands c.length.ensures.lawful) (sym c.is_over.ensures ∙ c.if-is_over.true) in
    omega (arith, long, c.length.ensures.length)
