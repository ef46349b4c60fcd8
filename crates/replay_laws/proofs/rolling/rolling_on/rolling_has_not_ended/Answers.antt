use Rattle.replay_laws.proofs.rolling.ByRule.{standing_open, standing_moves}
use Rattle.replay_laws.proofs.rolling.rolling_on.rolling_has_not_ended.Goals as goal

pub returns-clause-alive : goal.returns-clause-alive
returns-clause-alive c = standing_open

pub returns-clause-moves : goal.returns-clause-moves
returns-clause-moves c = standing_moves
