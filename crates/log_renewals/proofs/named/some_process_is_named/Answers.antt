use Rattle.log_renewals.proofs.Nobody.{fresh_names, standing_names}
use Rattle.log_renewals.proofs.named.some_process_is_named.Goals as goal

pub returns-clause-standing : goal.returns-clause-standing
returns-clause-standing c = standing_names

pub returns-clause-fresh : goal.returns-clause-fresh
returns-clause-fresh c = fresh_names
