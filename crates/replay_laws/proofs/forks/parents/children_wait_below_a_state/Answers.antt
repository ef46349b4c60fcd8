use Rattle.replay_laws.proofs.forks.StatedAbove.{stated_above}
use Rattle.replay_laws.proofs.forks.parents.children_wait_below_a_state.Goals as goal

pub returns : goal.returns
returns c system log test p valid legal up unended stateless passes = stated_above system log test valid legal up p unended stateless passes
