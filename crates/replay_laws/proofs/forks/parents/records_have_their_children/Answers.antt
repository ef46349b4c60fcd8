use Rattle.replay_laws.proofs.forks.StatedAbove.{in_the_record}
use Rattle.replay_laws.proofs.forks.parents.records_have_their_children.Goals as goal

pub returns : goal.returns
returns c = in_the_record
