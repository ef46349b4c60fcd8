use Rattle.page_waits.proofs.Started.{can_from, rolls_from}
use Rattle.page_waits.proofs.laws.goes_on_as_it_started.Goals as goal

pub returns-clause-can : goal.returns-clause-can
returns-clause-can c = can_from

pub returns-clause-rolls : goal.returns-clause-rolls
returns-clause-rolls c = rolls_from
