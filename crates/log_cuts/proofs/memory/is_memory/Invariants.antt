use Rattle.std.proofs.Common.{◌≡◌, true}
use Rattle.std.specs.List.{list_all, range_with_len}
use Rattle.page_server.specs.Account.{SameAccounts, account}
use Rattle.log_cuts.specs.Memory.{is_put}
use Rattle.log_cuts.proofs.memory.is_memory.Given as goal

-- the pages before the index are there, and the page server is as it was
abbrev pub invariant-loop-index : goal.invariant-loop-index
invariant-loop-index g l = record {
  accounts : SameAccounts l.fn.pager l.pager;
  fetches : l.pager.fetches ≡ l.fn.pager.fetches;
  put : list_all (is_put (account l.fn.pager l.pid).now (l.ram).bytes) (range_with_len 0 l.index) ≡ true;
}
