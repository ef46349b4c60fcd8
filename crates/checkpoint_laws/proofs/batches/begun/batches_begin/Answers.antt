use Rattle.checkpoint_laws.proofs.batches.BatchBegins.{batch_begins, batch_posts}
use Rattle.checkpoint_laws.proofs.batches.begun.batches_begin.Goals as goal

pub returns-clause-may : goal.returns-clause-may
returns-clause-may c = batch_begins

pub returns-clause-posts : goal.returns-clause-posts
returns-clause-posts c = batch_posts
