use Rattle.script_laws.proofs.Alternating.{back_follows, lost_between, lost_follows, returned_between}
use Rattle.script_laws.proofs.turns.losses_and_returns_alternate.Goals as goal

pub returns-clause-lost : goal.returns-clause-lost
returns-clause-lost c = lost_follows

pub returns-clause-back : goal.returns-clause-back
returns-clause-back c = back_follows

pub returns-clause-returned : goal.returns-clause-returned
returns-clause-returned c = returned_between

pub returns-clause-lost_again : goal.returns-clause-lost_again
returns-clause-lost_again c = lost_between
