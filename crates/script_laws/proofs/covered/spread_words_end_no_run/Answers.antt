use Rattle.script_laws.proofs.SpreadLosses.{one_word_spread, spread_closes, spread_covers}
use Rattle.script_laws.proofs.covered.spread_words_end_no_run.Goals as goal

pub returns-clause-covered : goal.returns-clause-covered
returns-clause-covered c = spread_covers

pub returns-clause-closes : goal.returns-clause-closes
returns-clause-closes c = spread_closes

pub returns-clause-word : goal.returns-clause-word
returns-clause-word c = one_word_spread
