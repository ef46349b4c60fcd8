use Rattle.checkpoint_laws.proofs.limits.StayingLimits.{keeps_stay, left_keeps, sent_stays}
use Rattle.checkpoint_laws.proofs.limits.staying.entries_keep_limits.Goals as goal

pub returns-clause-stays : goal.returns-clause-stays
returns-clause-stays c = keeps_stay

pub returns-clause-leaves : goal.returns-clause-leaves
returns-clause-leaves c = left_keeps

pub returns-clause-sent : goal.returns-clause-sent
returns-clause-sent c = sent_stays
