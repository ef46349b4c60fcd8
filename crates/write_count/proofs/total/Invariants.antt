use Rattle.std.proofs.Common.{◌≡◌, ◌+◌, ◌-◌, ◌*◌, ◌^◌, ◌≤◌, sum, take}
use Rattle.write_count.proofs.total.Given as goal

-- the counts so far are added up, and each is less than 2 ^ 32
abbrev pub invariant-loop-count : goal.invariant-loop-count
invariant-loop-count l = record {
  added : l.total ≡ (l.counts).signals + sum (take l.count-index (l.counts).ends);
  bounded : l.total ≤ (2 ^ 32 - 1) * (l.count-index + 1);
}
