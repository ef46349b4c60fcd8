use Rattle.std.proofs.Common.{◌≡◌, ◌++◌, ◌-◌, ◌≤◌}
use Rattle.std.specs.List.{range_with_len}
use Rattle.log_cuts.proofs.numbers.put_from.Given as goal

-- those below the next one
abbrev pub invariant-loop-number : goal.invariant-loop-number
invariant-loop-number l = record {
  put : l.numbers.items ≡ l.fn.numbers.items ++ range_with_len l.fn.first (l.number - l.fn.first);
  from : l.fn.first ≤ l.number;
  upto : l.number - l.fn.first ≤ l.fn.next - l.fn.first;
}
