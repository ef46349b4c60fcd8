use Rattle.replay_laws.proofs.rolling.ByRule.{standing_there, standing_silent, standing_after, standing_from}
use Rattle.replay_laws.proofs.rolling.rolling_on.rolling_catches_up.Goals as goal

pub returns-clause-there : goal.returns-clause-there
returns-clause-there c = standing_there

pub returns-clause-silent : goal.returns-clause-silent
returns-clause-silent c = standing_silent

pub returns-clause-after : goal.returns-clause-after
returns-clause-after c = standing_after

pub returns-clause-from_left : goal.returns-clause-from_left
returns-clause-from_left c = standing_from
