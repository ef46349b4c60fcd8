use Rattle.replay_laws.proofs.rolling.ByRule.{standing_step, standing_steps, standing_behind, standing_advanced}
use Rattle.replay_laws.proofs.rolling.rolling_on.rolling_goes_on.Goals as goal

pub returns-clause-step : goal.returns-clause-step
returns-clause-step c = standing_step

pub returns-clause-steps : goal.returns-clause-steps
returns-clause-steps c = standing_steps

pub returns-clause-behind : goal.returns-clause-behind
returns-clause-behind c = standing_behind

pub returns-clause-advanced : goal.returns-clause-advanced
returns-clause-advanced c = standing_advanced
