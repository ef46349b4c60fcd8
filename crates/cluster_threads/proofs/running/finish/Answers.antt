use Rattle.std.proofs.Common.{◌∙◌, sym}
use Rattle.cluster_run.proofs.AtTheEnd.{all_gone}
use Rattle.cluster_threads.proofs.running.finish.Goals as goal

-- where a loss has ended the run each cluster has stopped, or stops there
pub returns-then-ends_lost-clause-caught : goal.returns-then-ends_lost-clause-caught
returns-then-ends_lost-clause-caught c = all_gone c.args.bus.now c.args.clusters.now c.requires.sound (sym c.ends_lost.ensures ∙ c.if-ends_lost.true) c.requires.along
