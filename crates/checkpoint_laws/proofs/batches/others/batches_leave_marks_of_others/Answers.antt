use Rattle.checkpoint_laws.proofs.batches.BatchAndOthers.{page_beside, sync_beside}
use Rattle.checkpoint_laws.proofs.batches.others.batches_leave_marks_of_others.Goals as goal

pub returns-clause-pages : goal.returns-clause-pages
returns-clause-pages c = page_beside

pub returns-clause-sync : goal.returns-clause-sync
returns-clause-sync c = sync_beside
