use Rattle.std.proofs.Common.{sym, refl, not}
use Rattle.audited_log.proofs.Awaiting.{kept_waits}
use Rattle.audited_log.proofs.backups.has_awaited.Goals as goal

pub returns : goal.returns
returns c =
    kept_waits c.args.number c.args.places.now c.args.processes.now.entries (not c.waits.result) c.in-Some.pid c.in-Some.ensures c.in-Some-get.audited.now c.waits.result
    (sym c.in-Some-get.ensures.value) c.waits.ensures refl
