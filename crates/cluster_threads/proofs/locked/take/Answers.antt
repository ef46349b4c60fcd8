use Rattle.std.proofs.Common.{sym, subst, inl, refl}
use Rattle.bus_lock.specs.Lists.{Holds}
use Rattle.bus_lock.specs.Seats.{seen}
use Rattle.bus_order.specs.View.{BusView}
use Rattle.cluster_turns.specs.Offers.{GrowsFor}
use Rattle.cluster_threads.proofs.Entering.{grows_for}
use Rattle.cluster_threads.proofs.locked.take.Goals as goal

pub returns-clause-longer : goal.returns-clause-longer
returns-clause-longer g c =
    let k = c.args.number in
    let shows = c.enter.ensures.value in
    let grows = grows_for k (seen c.args.seat.now) c.enter.result.log shows.begins (shows.known k.0 (subst (Holds k.0) (sym c.requires.alone) (inl refl))) in
    subst (λ (b : BusView). GrowsFor k (seen c.args.seat.now) b.log) (sym c.into_box.ensures.same) grows
