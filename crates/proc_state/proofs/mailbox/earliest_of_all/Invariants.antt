use Rattle.proc_state.proofs.EarliestLaws.{IsBestOfAllBelow}
use Rattle.proc_state.proofs.mailbox.earliest_of_all.Given as goal

abbrev pub invariant-loop-end : goal.invariant-loop-end
invariant-loop-end l = IsBestOfAllBelow l.end l.queues l.best
