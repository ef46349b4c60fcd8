use Rattle.cert_sched.specs.Legal.{Stands}
use Rattle.replay_laws.proofs.rolling.ByRule.{itself}
use Rattle.replay_laws.proofs.rolling.Stateless.{stateless_born, stateless_unsynced}
use Rattle.replay_laws.proofs.rolling.children.stateless_processes_are_children.Goals as goal

pub returns-clause-unsynced : goal.returns-clause-unsynced
returns-clause-unsynced c = stateless_unsynced Stands itself

pub returns-clause-born : goal.returns-clause-born
returns-clause-born c = stateless_born Stands
