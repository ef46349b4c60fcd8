use Rattle.std.proofs.Common.{◌-◌, ◌≡◌, ◌≤◌, Some}
use Rattle.sys_calls.specs.Next.{silently_marked}
use Rattle.sys_calls.specs.Steps.{marked}
use Rattle.counted_steps.proofs.counted.make_silent_steps.Given as goal

abbrev pub invariant-steps : goal.invariant-steps
invariant-steps l = record {
  within : l.left ≤ l.fn.steps;
  made : silently_marked (l.fn.steps - l.left) (marked l.fn.p) ≡ Some (marked l.p);
}

abbrev pub decreases-steps : goal.decreases-steps
decreases-steps l = l.left
