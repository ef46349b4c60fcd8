use Rattle.checkpoint_laws.proofs.limits.ForkLimits.{newborn_limits, newborn_undue}
use Rattle.checkpoint_laws.proofs.limits.forks.children_begin_within.Goals as goal

pub returns-clause-undue : goal.returns-clause-undue
returns-clause-undue c = newborn_undue

pub returns-clause-keeps : goal.returns-clause-keeps
returns-clause-keeps c = newborn_limits
