use Rattle.std.proofs.Common.{◌≡◌, drop}
use Rattle.sys_calls.specs.Small.{linked_from, lowest_linked}
use Rattle.sys_calls.proofs.small.lowest_linked.Given as goal

abbrev pub invariant-loop-number : goal.invariant-loop-number
invariant-loop-number l = linked_from l.number (drop l.number l.ends) ≡ lowest_linked l.ends
