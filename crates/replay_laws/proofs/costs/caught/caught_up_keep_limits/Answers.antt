use Rattle.replay_laws.proofs.costs.CaughtLimits.{stand_keeps, caught_keeps, caught_limits}
use Rattle.replay_laws.proofs.costs.caught.caught_up_keep_limits.Goals as goal

pub returns-clause-there : goal.returns-clause-there
returns-clause-there c = stand_keeps

pub returns-clause-caught : goal.returns-clause-caught
returns-clause-caught c = caught_keeps

pub returns-clause-after : goal.returns-clause-after
returns-clause-after c = caught_limits
