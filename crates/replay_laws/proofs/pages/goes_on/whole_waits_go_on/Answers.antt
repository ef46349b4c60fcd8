use Rattle.replay_laws.proofs.pages.GoesOn.{can_go_on_so, goes_on_so}
use Rattle.replay_laws.proofs.pages.PagesCame.{has_all}
use Rattle.replay_laws.proofs.pages.goes_on.whole_waits_go_on.Goals as goal

pub returns-clause-can : goal.returns-clause-can
returns-clause-can c = can_go_on_so

pub returns-clause-behind : goal.returns-clause-behind
returns-clause-behind c = goes_on_so

pub returns-clause-pages : goal.returns-clause-pages
returns-clause-pages c = has_all
