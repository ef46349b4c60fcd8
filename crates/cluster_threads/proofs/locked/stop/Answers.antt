use Rattle.std.proofs.Common.{subst}
use Rattle.bus_order.specs.View.{BusView, Stops}
use Rattle.cluster_threads.proofs.Entering.{sees_end, stop_adds, stop_over}
use Rattle.cluster_threads.proofs.locked.stop.Goals as goal

pub put_back-requires-clause-added : goal.put_back-requires-clause-added
put_back-requires-clause-added g c =
    let stops = subst (λ (b : BusView). Stops b c.stop.result c.stop.new.self) c.deref_mut.ensures.value c.stop.ensures.stops in
    (c.take-bus.result.value, c.take-bus.ensures.inside, stop_adds c.args.number c.take-bus.result.value c.stop.new.self c.stop.result stops)

pub returns-clause-over : goal.returns-clause-over
returns-clause-over g c =
    let stops = subst (λ (b : BusView). Stops b c.stop.result c.stop.new.self) c.deref_mut.ensures.value c.stop.ensures.stops in
    sees_end c.put_back.new.seat c.stop.new.self c.put_back.ensures.origin c.put_back.ensures.whole (stop_over c.take-bus.result.value c.stop.new.self c.stop.result stops)
