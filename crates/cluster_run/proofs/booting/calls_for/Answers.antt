use Rattle.cluster_turns.proofs.DiskCalls.{calls_more}
use Rattle.cluster_run.proofs.booting.calls_for.Goals as goal

pub loop-word-preserved : goal.loop-word-preserved
loop-word-preserved c = calls_more c.args.number c.args.script.now c.loop-word.word-index _ _ _ c.loop-word-test.true c.loop-word.invariant c.in_ok-push_call.ensures
