use Rattle.log_renewals.proofs.Unmoved.{begins}
use Rattle.log_renewals.proofs.moved.moved_only_begins.Goals as goal

pub returns : goal.returns
returns c = begins
