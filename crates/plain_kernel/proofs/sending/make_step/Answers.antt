use Rattle.plain_kernel.proofs.Delivery.{there_small, undone}
use Rattle.plain_kernel.proofs.sending.make_step.Goals as goal

pub restore-requires : goal.restore-requires
restore-requires c = let stopped = rw c.in-Err.is at c.go_on.ensures in there_small _ _ c.args.pid stopped.0

pub returns-in-Ok : goal.returns-in-Ok
returns-in-Ok c = rw c.in-Ok.is at c.go_on.ensures

pub returns-in-Err : goal.returns-in-Err
returns-in-Err c =
    let stopped = rw c.in-Err.is at c.go_on.ensures in
    (undone _ _ _ c.args.pid _ stopped.0 c.small_at-before.ensures c.restore.ensures, stopped.1)
