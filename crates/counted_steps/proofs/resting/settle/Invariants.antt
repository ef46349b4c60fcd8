use Rattle.std.proofs.Common.{ℕ, ◌≡◌, Some}
use Rattle.proc_state.specs.State.{state_of}
use Rattle.sys_calls.specs.Next.{silently}
use Rattle.sys_calls.specs.Small.{weight}
use Rattle.counted_steps.proofs.resting.settle.Given as goal

abbrev pub invariant-steps : goal.invariant-steps
invariant-steps l = record {
  steps : ℕ;
  made : silently steps (state_of l.fn.p) ≡ Some (state_of l.p);
}

abbrev pub decreases-steps : goal.decreases-steps
decreases-steps l = weight l.p.small
