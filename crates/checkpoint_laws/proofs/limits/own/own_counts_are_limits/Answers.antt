use Rattle.checkpoint_laws.proofs.limits.OwnCounts.{own_limits}
use Rattle.checkpoint_laws.proofs.limits.own.own_counts_are_limits.Goals as goal

pub returns : goal.returns
returns c = own_limits
