use Rattle.script_laws.proofs.LosingAtStep.{scripted_before, scripted_sent, may_before, may_sent}
use Rattle.script_laws.proofs.lost_at.lost_at_its_step.Goals as goal

pub returns-clause-scripted : goal.returns-clause-scripted
returns-clause-scripted c = scripted_before

pub returns-clause-may : goal.returns-clause-may
returns-clause-may c = may_before

pub returns-clause-sent : goal.returns-clause-sent
returns-clause-sent c = scripted_sent

pub returns-clause-may_sent : goal.returns-clause-may_sent
returns-clause-may_sent c = may_sent
