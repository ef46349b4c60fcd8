use Rattle.std.proofs.Common.{◌≡◌, ◌++◌, [], map}
use Rattle.std.specs.List.Sorted.{IsStrictlySortedBy}
use Rattle.std.specs.Ordering.{nat_cmp}
use Rattle.plain_kernel.specs.Starts.{starts_in}
use Rattle.cluster_core.specs.Booting.{RunFrom}
use Rattle.cluster_core.proofs.booting.residents_of.Given as goal

abbrev pub invariant-loop-pid : goal.invariant-loop-pid
invariant-loop-pid l = record {
  all : l.yielded ++ l.pid-iterator ≡ l.fn.starts.entries;
  ordered : IsStrictlySortedBy nat_cmp (map (λ e. e.0) (l.yielded ++ l.pid-iterator));
  duty : l.here.duty ≡ record { limits = l.fn.limits; owing = [] };
  own : RunFrom (starts_in l.yielded) l.number l.here.here;
}
