use Rattle.std.proofs.Common.{ap, sym, subst, Some}
use Rattle.bus_lock.specs.Seats.{AllFresh}
use Rattle.bus_lock.proofs.lock.LogLock.with_seats.Goals as goal

pub returns-clause-seats : goal.returns-clause-seats
returns-clause-seats g c =
    subst (AllFresh c.in_ok-lock.lock (Some (g.V.LogValue.origin c.args.value))) (sym c.from_vec.ensures)
    (subst (λ origin. AllFresh c.in_ok-lock.lock origin c.in_ok-given.given.items) (ap (λ view. view.origin) c.in_ok-lock.ensures.1) c.in_ok-given.ensures.seats)
