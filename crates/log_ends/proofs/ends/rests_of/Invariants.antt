use Rattle.std.proofs.Common.{◌≡◌, ℕ, List, ◌++◌, length, map}
use Rattle.std.specs.List.Sorted.{IsStrictlySortedBy}
use Rattle.std.specs.Ordering.{nat_cmp}
use Rattle.proc_state.specs.declared.process.Process.{Process}
use Rattle.log_ends.specs.Ends.{EachRests}
use Rattle.log_ends.proofs.ends.rests_of.Given as goal

-- those that were taken out rest, and with those that are left there are all of them
abbrev pub invariant-processes : goal.invariant-processes
invariant-processes l = record {
  taken : List (ℕ × Process);
  all : taken ++ l.processes.entries ≡ l.fn.processes.entries;
  ordered : IsStrictlySortedBy nat_cmp (map (λ (e : ℕ × Process). e.0) l.processes.entries) → IsStrictlySortedBy nat_cmp (map (λ (e : ℕ × Process). e.0) l.fn.processes.entries);
  rest : EachRests taken l.rests;
}

abbrev pub decreases-processes : goal.decreases-processes
decreases-processes l = length l.processes.entries
