use Rattle.log_laws.proofs.births.OtherEntries.{others_leave}
use Rattle.log_laws.proofs.births.unsynced.others_leave_births.Goals as goal

pub returns : goal.returns
returns c = others_leave
