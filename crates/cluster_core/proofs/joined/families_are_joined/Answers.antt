use Rattle.cluster_core.proofs.awaiting.Joined.{joined}
use Rattle.cluster_core.proofs.joined.families_are_joined.Goals as goal

pub returns : goal.returns
returns c = joined
