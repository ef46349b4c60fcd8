use Rattle.sync_point.proofs.PostLaws.{ends_with_sync, all_by}
use Rattle.sync_point.proofs.laws.batches_end_with_a_sync.Goals as goal

pub returns-clause-ends : goal.returns-clause-ends
returns-clause-ends c = ends_with_sync

pub returns-clause-own : goal.returns-clause-own
returns-clause-own c = all_by
