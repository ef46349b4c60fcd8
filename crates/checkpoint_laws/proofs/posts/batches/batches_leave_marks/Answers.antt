use Rattle.checkpoint_laws.proofs.posts.BatchStands.{batch_marks}
use Rattle.checkpoint_laws.proofs.posts.batches.batches_leave_marks.Goals as goal

pub returns : goal.returns
returns c = batch_marks
