use Rattle.log_laws.proofs.births.OtherEntries.{synced_goes, ended_goes}
use Rattle.log_laws.proofs.births.unsynced.synced_and_ended_go.Goals as goal

pub returns-clause-synced : goal.returns-clause-synced
returns-clause-synced c = synced_goes

pub returns-clause-ended : goal.returns-clause-ended
returns-clause-ended c = ended_goes
