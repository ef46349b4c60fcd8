use Rattle.bus_lock.proofs.Closes.{finds, finds_value}
use Rattle.bus_lock.proofs.lock.LogLock.close.Goals as goal

pub unreachable-requires : goal.unreachable-requires
unreachable-requires g c =
    let found = finds g.V.LogValue.entries g.V.LogValue.origin g.V.LogValue.author _ _ _ _ c.into_place.result c.args.seat.seat c.take-slot.result c.into_place.ensures.place c.close_with-closed.ensures.values.2 c.args.seat.live c.requires.out c.requires.all c.take-slot.ensures.value in
    absurd (cc (found.is, c.in-None.is))

pub returns-clause-value : goal.returns-clause-value
returns-clause-value g c = (finds_value g.V.LogValue.entries g.V.LogValue.origin g.V.LogValue.author _ _ _ _ c.into_place.result c.args.seat.seat c.take-slot.result _ c.into_place.ensures.place c.close_with-closed.ensures.values.2 c.args.seat.live c.requires.out c.requires.all c.take-slot.ensures.value c.in-Some.is).shows

pub returns-clause-known : goal.returns-clause-known
returns-clause-known g c = (finds_value g.V.LogValue.entries g.V.LogValue.origin g.V.LogValue.author _ _ _ _ c.into_place.result c.args.seat.seat c.take-slot.result _ c.into_place.ensures.place c.close_with-closed.ensures.values.2 c.args.seat.live c.requires.out c.requires.all c.take-slot.ensures.value c.in-Some.is).known

pub returns-clause-all : goal.returns-clause-all
returns-clause-all g c = (finds_value g.V.LogValue.entries g.V.LogValue.origin g.V.LogValue.author _ _ _ _ c.into_place.result c.args.seat.seat c.take-slot.result _ c.into_place.ensures.place c.close_with-closed.ensures.values.2 c.args.seat.live c.requires.out c.requires.all c.take-slot.ensures.value c.in-Some.is).all
