use Rattle.script_laws.proofs.LosingAtCall.{may_at_call, may_at_sent}
use Rattle.script_laws.proofs.lost_at.lost_at_its_call.Goals as goal

pub returns-clause-may : goal.returns-clause-may
returns-clause-may c = may_at_call

pub returns-clause-may_sent : goal.returns-clause-may_sent
returns-clause-may_sent c = may_at_sent
