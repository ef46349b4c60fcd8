use Rattle.std.proofs.Common.{◌≡◌, ◌++◌, map}
use Rattle.std.specs.List.Sorted.{IsStrictlySortedBy}
use Rattle.std.specs.Ordering.{nat_cmp}
use Rattle.plain_kernel.specs.Maps.{AreFresh}
use Rattle.plain_kernel.specs.Maps.{processes_of as states_of}
use Rattle.plain_kernel.specs.Starts.{starts_in}
use Rattle.plain_kernel.proofs.booting.with_memories.Given as goal

-- the processes of the roots that were seen
abbrev pub invariant-loop-pid : goal.invariant-loop-pid
invariant-loop-pid l = record {
  all : l.yielded ++ l.pid-iterator ≡ l.fn.starts.entries;
  ordered : IsStrictlySortedBy nat_cmp (map (λ e. e.0) (l.yielded ++ l.pid-iterator));
  states : states_of l.processes.entries ≡ starts_in l.yielded;
  fresh : AreFresh l.processes.entries;
}
