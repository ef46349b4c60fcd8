use Rattle.std.proofs.Common.{false, refl}
use Rattle.audited_process.proofs.Beginning.{begins_unmoved}
use Rattle.audited_process.proofs.since_moved.SinceMoved.unmoved.Goals as goal

pub returns : goal.returns
returns c = begins_unmoved (record { sent = c.none.result; only = false; waits = false }) c.none.ensures.none refl refl
