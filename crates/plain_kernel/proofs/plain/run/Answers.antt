use Rattle.std.proofs.Common.{refl, arith}
use Rattle.plain_kernel.proofs.Laws.{one_applied}
use Rattle.plain_kernel.proofs.plain.run.Goals as goal

pub loop-index-preserved : goal.loop-index-preserved
loop-index-preserved c = one_applied c.args.items.now c.loop-index.index _ _ _ _ _ (omega arith) refl c.loop-index.invariant c.in-Ok-apply.ensures
