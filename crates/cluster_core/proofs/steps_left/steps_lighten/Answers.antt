use Rattle.sys_calls.proofs.Weighing.{emits_leaves, silently_leaves}
use Rattle.cluster_core.proofs.steps_left.steps_lighten.Goals as goal

pub returns-clause-silent : goal.returns-clause-silent
returns-clause-silent c = silently_leaves

pub returns-clause-sends : goal.returns-clause-sends
returns-clause-sends c = emits_leaves
