use Rattle.log_laws.proofs.letters.SyncReads.{sync_fronts, sync_ends}
use Rattle.log_laws.proofs.letters.reads.syncs_read_from_fronts.Goals as goal

pub returns-clause-fronts : goal.returns-clause-fronts
returns-clause-fronts c = sync_fronts

pub returns-clause-ends : goal.returns-clause-ends
returns-clause-ends c = sync_ends
