use Rattle.checkpoint_laws.proofs.posts.BatchStands.{batch_stands}
use Rattle.checkpoint_laws.proofs.posts.batches.batches_stand.Goals as goal

pub returns : goal.returns
returns c = batch_stands
