use Rattle.cluster_core.proofs.working.Lightening.{moved_lightens, queued_lightens}
use Rattle.cluster_core.proofs.steps_left.work_lightens.Goals as goal

pub returns-clause-moved : goal.returns-clause-moved
returns-clause-moved c = λ old new valid f work. moved_lightens old valid f new work

pub returns-clause-queued : goal.returns-clause-queued
returns-clause-queued c = queued_lightens
