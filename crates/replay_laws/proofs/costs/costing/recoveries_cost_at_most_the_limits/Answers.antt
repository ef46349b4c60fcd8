use Rattle.replay_laws.proofs.costs.RecordCost.{cost_in_steps, cost_in_reads}
use Rattle.replay_laws.proofs.costs.costing.recoveries_cost_at_most_the_limits.Goals as goal

pub returns-clause-steps : goal.returns-clause-steps
returns-clause-steps c = cost_in_steps

pub returns-clause-reads : goal.returns-clause-reads
returns-clause-reads c = cost_in_reads
