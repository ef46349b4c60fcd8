use Rattle.std.proofs.Common.{subst, arith}
use Rattle.proc_state.proofs.EarliestLaws.{IsBestOfAllBelow, none_of_every, earliest_of_every}
use Rattle.proc_state.proofs.mailbox.earliest_of_all.Goals as goal

pub returns-in-Some-best : goal.returns-in-Some-best
returns-in-Some-best c =
    let queues = c.args.queues.now in
    earliest_of_every queues c.loop-end.end _ _ (omega arith) (subst (IsBestOfAllBelow c.loop-end.end queues) c.in-Some-best.is c.loop-end.invariant)

pub returns-in-None : goal.returns-in-None
returns-in-None c =
    let queues = c.args.queues.now in
    none_of_every queues c.loop-end.end (omega arith) (subst (IsBestOfAllBelow c.loop-end.end queues) c.in-None.is c.loop-end.invariant)
