use Rattle.checkpoint_laws.proofs.limits.ForkLimits.{birth_keeps, fork_within}
use Rattle.checkpoint_laws.proofs.limits.forks.forks_stay_within.Goals as goal

pub returns-clause-within : goal.returns-clause-within
returns-clause-within c = fork_within

pub returns-clause-birth : goal.returns-clause-birth
returns-clause-birth c = birth_keeps
