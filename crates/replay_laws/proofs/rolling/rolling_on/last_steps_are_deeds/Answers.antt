use Rattle.replay_laws.proofs.rolling.ByRule.{standing_exact}
use Rattle.replay_laws.proofs.rolling.rolling_on.last_steps_are_deeds.Goals as goal

pub returns : goal.returns
returns c = standing_exact
