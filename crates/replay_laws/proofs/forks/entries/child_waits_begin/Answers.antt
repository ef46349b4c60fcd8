use Rattle.replay_laws.proofs.forks.Begins.{begins_so, no_rolling, pageless}
use Rattle.replay_laws.proofs.forks.entries.child_waits_begin.Goals as goal

pub returns-clause-begins : goal.returns-clause-begins
returns-clause-begins c = begins_so

pub returns-clause-page : goal.returns-clause-page
returns-clause-page c = pageless

pub returns-clause-memory : goal.returns-clause-memory
returns-clause-memory c = no_rolling
