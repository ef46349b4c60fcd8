use Rattle.std.proofs.Common.{sym, subst}
use Rattle.bus_msg.specs.Places.{Places}
use Rattle.audited_log.specs.Backups.{HasAwaited}
use Rattle.audited_log.proofs.Awaiting.{waiter_says}
use Rattle.audited_log.proofs.backups.keeps_backups.Goals as goal

pub returns-in-Some : goal.returns-in-Some
returns-in-Some c =
    waiter_says c.args.state.now c.args.told.now c.has_awaited.result c.in-Some.number (sym c.in-Some.ensures)
    (subst (λ (places : Places). HasAwaited c.in-Some.number places (c.args.state.now.processes).entries c.has_awaited.result) c.places-places.ensures c.has_awaited.ensures)
