use Rattle.log_cuts.proofs.Putting.{leaves_sent}
use Rattle.log_cuts.proofs.sent_pages.others_leave_them.Goals as goal

pub returns : goal.returns
returns c = leaves_sent
