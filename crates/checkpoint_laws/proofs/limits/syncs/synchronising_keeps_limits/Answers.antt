use Rattle.checkpoint_laws.proofs.limits.SyncLimits.{sync_within, sync_keeps}
use Rattle.checkpoint_laws.proofs.limits.syncs.synchronising_keeps_limits.Goals as goal

pub returns-clause-within : goal.returns-clause-within
returns-clause-within c = sync_within

pub returns-clause-keeps : goal.returns-clause-keeps
returns-clause-keeps c = sync_keeps
