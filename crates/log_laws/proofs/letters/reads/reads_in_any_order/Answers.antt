use Rattle.log_laws.proofs.letters.SameRead.{any_left, any_fronts, any_ends}
use Rattle.log_laws.proofs.letters.reads.reads_in_any_order.Goals as goal

pub returns-clause-left : goal.returns-clause-left
returns-clause-left c = any_left

pub returns-clause-fronts : goal.returns-clause-fronts
returns-clause-fronts c = any_fronts

pub returns-clause-ends : goal.returns-clause-ends
returns-clause-ends c = any_ends
