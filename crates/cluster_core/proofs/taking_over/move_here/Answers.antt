use Rattle.std.proofs.Common.{sym, subst}
use Rattle.cluster_core.specs.Recovered.{CanWait}
use Rattle.cluster_core.proofs.taking_over.move_here.Goals as goal

pub begin_waits-requires-clause-can : goal.begin_waits-requires-clause-can
begin_waits-requires-clause-can c = subst (λ rs. CanWait rs c.args.here.now.here) (sym c.in_ok-moved.ensures.moved) c.requires
