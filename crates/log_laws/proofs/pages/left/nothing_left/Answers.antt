use Rattle.log_laws.proofs.pages.NothingLeft.{fetched_waits, none_left}
use Rattle.log_laws.proofs.pages.left.nothing_left.Goals as goal

pub returns-clause-waited : goal.returns-clause-waited
returns-clause-waited c = fetched_waits

pub returns-clause-pages : goal.returns-clause-pages
returns-clause-pages c = none_left
