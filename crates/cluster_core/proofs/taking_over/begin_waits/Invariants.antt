use Rattle.std.proofs.Common.{◌≡◌, true, deque_len}
use Rattle.backup_records.specs.Records.{are_rising}
use Rattle.cluster_core.specs.Recovered.{CanWait, with_all_waiting}
use Rattle.cluster_core.proofs.taking_over.begin_waits.Given as goal

-- those that are left can wait too, and what is here would be all with them
abbrev pub invariant-records : goal.invariant-records
invariant-records l = record {
  rising : are_rising (l.left).items ≡ true;
  can : CanWait (l.left).items l.here.here;
  duty : l.here.duty ≡ l.fn.here.duty;
  all : with_all_waiting (l.left).items l.here.here ≡ with_all_waiting l.fn.moved l.fn.here.here;
}

abbrev pub decreases-records : goal.decreases-records
decreases-records l = deque_len l.left
