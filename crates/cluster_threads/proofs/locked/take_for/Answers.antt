use Rattle.std.proofs.Common.{refl}
use Rattle.bus_order.specs.declared.shared.Origin.{Origin}
use Rattle.bus_order.specs.View.{BusView}
use Rattle.cluster_threads.specs.Seated.{bus_of, origin_of}
use Rattle.bus_lock.specs.Seats.{seen}
use Rattle.cluster_turns.proofs.Offering.{along_longer}
use Rattle.cluster_threads.proofs.locked.take_for.Goals as goal

pub returns-clause-along : goal.returns-clause-along
returns-clause-along g c =
    let b : BusView = c.take_sound.result.value in
    let from : Origin = origin_of b in
    along_longer (bus_of from (seen c.args.seat.now)) b c.args.cluster.now (c.requires.along from c.take_sound.ensures.origin) (refl, refl, c.take_sound.ensures.longer)
