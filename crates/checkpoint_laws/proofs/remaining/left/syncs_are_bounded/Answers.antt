use Rattle.checkpoint_laws.proofs.remaining.Bounded.{syncs_within}
use Rattle.checkpoint_laws.proofs.remaining.left.syncs_are_bounded.Goals as goal

pub returns : goal.returns
returns c = syncs_within
