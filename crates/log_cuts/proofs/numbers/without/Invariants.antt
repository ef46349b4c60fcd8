use Rattle.std.proofs.Common.{◌≡◌, ◌++◌, ◌≤◌, drop, length}
use Rattle.log_cuts.specs.Numbers.{without}
use Rattle.log_cuts.proofs.numbers.without.Given as goal

-- what is left, and what is left of the rest
abbrev pub invariant-loop-number : goal.invariant-loop-number
invariant-loop-number l = record {
  within : l.next ≤ length l.others;
  left : without l.fn.numbers l.fn.others ≡ l.left.items ++ without (drop l.number-index l.numbers) (drop l.next l.others);
}
