use Rattle.log_cuts.proofs.Starting.{leaves_start}
use Rattle.log_cuts.proofs.start.others_leave_it.Goals as goal

pub returns : goal.returns
returns c = leaves_start
