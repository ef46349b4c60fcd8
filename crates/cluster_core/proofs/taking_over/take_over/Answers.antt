use Rattle.std.proofs.Common.{subst}
use Rattle.cluster_core.specs.Recovered.{CanWait, moved_by}
use Rattle.cluster_core.proofs.taking_over.take_over.Goals as goal

pub move_here-requires : goal.move_here-requires
move_here-requires c = subst (λ w. CanWait (moved_by c.args.before.now c.args.number w c.args.records.now) c.args.here.now.here) c.in-Crash.is c.requires
