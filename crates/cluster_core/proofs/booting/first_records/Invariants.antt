use Rattle.std.proofs.Common.{◌≡◌, ◌++◌, map}
use Rattle.std.specs.List.Sorted.{IsStrictlySortedBy}
use Rattle.std.specs.Ordering.{nat_cmp}
use Rattle.cluster_core.specs.Booting.{AreFirstRecords}
use Rattle.cluster_core.proofs.boot.FirstRecords.{seen}
use Rattle.cluster_core.proofs.booting.first_records.Given as goal

abbrev pub invariant-loop-pid : goal.invariant-loop-pid
invariant-loop-pid l = record {
  all : seen l.yielded ++ l.pid-iterator ≡ l.starts.entries;
  ordered : IsStrictlySortedBy nat_cmp (map (λ e. e.0) (seen l.yielded ++ l.pid-iterator));
  are : AreFirstRecords l.places l.number (seen l.yielded) l.records;
}
