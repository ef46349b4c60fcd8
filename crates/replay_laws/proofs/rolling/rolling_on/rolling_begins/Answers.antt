use Rattle.replay_laws.proofs.rolling.Beginning.{rolls_from_start, rolls_from_record}
use Rattle.replay_laws.proofs.rolling.ByRule.{begins_behind, standing_from_kept, standing_from_start}
use Rattle.replay_laws.proofs.rolling.FromStart.{record_stated, stated_at_start}
use Rattle.replay_laws.proofs.rolling.rolling_on.rolling_begins.Goals as goal

pub returns-clause-start : goal.returns-clause-start
returns-clause-start c = rolls_from_start

pub returns-clause-recorded : goal.returns-clause-recorded
returns-clause-recorded c = rolls_from_record

pub returns-clause-behind : goal.returns-clause-behind
returns-clause-behind c = begins_behind

pub returns-clause-has_state : goal.returns-clause-has_state
returns-clause-has_state c = record_stated

pub returns-clause-stated : goal.returns-clause-stated
returns-clause-stated c = stated_at_start

pub returns-clause-from_kept : goal.returns-clause-from_kept
returns-clause-from_kept c = standing_from_kept

pub returns-clause-from_start : goal.returns-clause-from_start
returns-clause-from_start c = standing_from_start
