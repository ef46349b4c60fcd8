use Rattle.checkpoint_laws.proofs.posts.BatchIsNew.{batch_is_new}
use Rattle.checkpoint_laws.proofs.posts.batches.batches_are_new.Goals as goal

pub returns : goal.returns
returns c = batch_is_new
