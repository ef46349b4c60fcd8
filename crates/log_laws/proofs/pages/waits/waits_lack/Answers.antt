use Rattle.log_laws.proofs.pages.Waiting.{waited_lacks, came_fetched, waited_has_not, who_acts_waits_not}
use Rattle.log_laws.proofs.pages.waits.waits_lack.Goals as goal

pub returns-clause-fetched : goal.returns-clause-fetched
returns-clause-fetched c system log p i legal waited = (waited_lacks system log p i legal waited).fetched

pub returns-clause-not_come : goal.returns-clause-not_come
returns-clause-not_come c system log p i legal waited = (waited_lacks system log p i legal waited).not_come

pub returns-clause-moved : goal.returns-clause-moved
returns-clause-moved c system log p i legal waited = (waited_lacks system log p i legal waited).moved

pub returns-clause-within : goal.returns-clause-within
returns-clause-within c system log p i legal waited = (waited_lacks system log p i legal waited).within

pub returns-clause-has_not : goal.returns-clause-has_not
returns-clause-has_not c = waited_has_not

pub returns-clause-still : goal.returns-clause-still
returns-clause-still c = who_acts_waits_not

pub returns-clause-came : goal.returns-clause-came
returns-clause-came c = came_fetched
