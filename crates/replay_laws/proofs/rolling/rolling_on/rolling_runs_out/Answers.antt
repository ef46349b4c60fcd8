use Rattle.replay_laws.proofs.rolling.ByRule.{standing_ahead, standing_can, standing_always}
use Rattle.replay_laws.proofs.rolling.rolling_on.rolling_runs_out.Goals as goal

pub returns-clause-ahead : goal.returns-clause-ahead
returns-clause-ahead c = standing_ahead

pub returns-clause-can : goal.returns-clause-can
returns-clause-can c = standing_can

pub returns-clause-always : goal.returns-clause-always
returns-clause-always c = standing_always
