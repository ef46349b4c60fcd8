use Rattle.replay_laws.proofs.rolling.Others.{others_tell_none, others_cut_none}
use Rattle.replay_laws.proofs.rolling.ByRule.{standing_entry, standing_letter, standing_quiet, entry_behind}
use Rattle.replay_laws.proofs.rolling.rolling_on.entries_reach_it.Goals as goal

pub returns-clause-others : goal.returns-clause-others
returns-clause-others c = others_tell_none

pub returns-clause-uncut : goal.returns-clause-uncut
returns-clause-uncut c = others_cut_none

pub returns-clause-standing : goal.returns-clause-standing
returns-clause-standing c = standing_entry

pub returns-clause-letter : goal.returns-clause-letter
returns-clause-letter c = standing_letter

pub returns-clause-quiet : goal.returns-clause-quiet
returns-clause-quiet c = standing_quiet

pub returns-clause-behind : goal.returns-clause-behind
returns-clause-behind c = entry_behind
