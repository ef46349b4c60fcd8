use Rattle.std.proofs.Common.{◌≡◌, ◌+◌, ◌≤◌, ◌++◌, vec_len, vec_capacity, deque_len}
use Rattle.backup_records.specs.ByPid.{left_after, taken_at}
use Rattle.backup_records.proofs.by_pid.take_out.Given as goal

-- those that left and those at the keys that are left are all, what stays is the same, and there is room for the rest
abbrev pub invariant-pids : goal.invariant-pids
invariant-pids l = record {
  taken : taken_at (l.fn.pids).items l.fn.records.entries ≡ (l.taken).items ++ taken_at (l.left).items l.records.entries;
  left : left_after (l.fn.pids).items l.fn.records.entries ≡ left_after (l.left).items l.records.entries;
  room : vec_len l.taken + deque_len l.left ≤ vec_capacity l.taken;
}

abbrev pub decreases-pids : goal.decreases-pids
decreases-pids l = deque_len l.left
