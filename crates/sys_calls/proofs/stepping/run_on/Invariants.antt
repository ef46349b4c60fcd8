use Rattle.sys_calls.specs.Passing.{Went}
use Rattle.sys_calls.specs.Small.{weight}
use Rattle.sys_calls.proofs.stepping.run_on.Given as goal

abbrev pub invariant-steps : goal.invariant-steps
invariant-steps l = Went l.fn.p l.p

abbrev pub decreases-steps : goal.decreases-steps
decreases-steps l = weight l.p.small
