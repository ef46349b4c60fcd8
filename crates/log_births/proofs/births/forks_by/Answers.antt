use Rattle.log_births.proofs.Bearing.{can_fork_where}
use Rattle.log_births.proofs.births.forks_by.Goals as goal

pub returns-clause-can : goal.returns-clause-can
returns-clause-can c = can_fork_where c.steps_upto-steps.result c.args.process.now c.come_to_fork.new.p c.come_to_fork.result c.come_to_fork.ensures
