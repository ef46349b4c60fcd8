use Rattle.checkpoint_laws.proofs.limits.SyncLimits.{batch_keeps}
use Rattle.checkpoint_laws.proofs.limits.syncs.batches_keep_limits.Goals as goal

pub returns : goal.returns
returns c = batch_keeps
