use Rattle.std.proofs.Common.{◌-◌, ◌≡◌, ◌≤◌, true}
use Rattle.sys_calls.specs.Passing.{IsAtCall}
use Rattle.quanta.specs.Limited.{is_within}
use Rattle.quanta.specs.Quantum.{RunsOn}
use Rattle.quanta.proofs.quantum.run_rest.Given as goal

abbrev pub invariant-steps : goal.invariant-steps
invariant-steps l = record {
  from : l.before ≤ l.made;
  runs : RunsOn (l.made - l.before) l.fn.p l.p;
  few : l.made ≤ 64;
  unmoved : l.made - l.before ≡ 0 → l.p ≡ l.fn.p;
  calls : l.calls ≡ true → IsAtCall l.p;
  within : is_within l.limits l.fn.p ≡ true → is_within l.limits l.p ≡ true;
}

abbrev pub decreases-steps : goal.decreases-steps
decreases-steps l = 64 - l.made
