use Rattle.std.proofs.Common.{◌≡◌, ◌++◌, [], map}
use Rattle.std.specs.List.Sorted.{IsStrictlySortedBy}
use Rattle.std.specs.Ordering.{nat_cmp}
use Rattle.page_accounts.specs.Booting.{CallsMade, pages_of}
use Rattle.page_accounts.proofs.Booted.{HoldsMemories, seen}
use Rattle.page_accounts.proofs.booting.put_roots.Given as goal

-- the memories of the roots that were seen are put
abbrev pub invariant-loop-pid : goal.invariant-loop-pid
invariant-loop-pid g l = record {
  all : seen l.yielded ++ l.pid-iterator ≡ l.starts.entries;
  ordered : IsStrictlySortedBy nat_cmp (map (λ e. e.0) (seen l.yielded ++ l.pid-iterator));
  holds : HoldsMemories (seen l.yielded) l.pager;
  fetches : l.pager.fetches ≡ [];
  counts : CallsMade (pages_of (seen l.yielded)) l.fn.pager.counts l.pager.counts;
}
