use Rattle.log_processes.proofs.Children.{can_bear}
use Rattle.log_processes.proofs.families.births_can_follow.Goals as goal

pub returns : goal.returns
returns c = can_bear
