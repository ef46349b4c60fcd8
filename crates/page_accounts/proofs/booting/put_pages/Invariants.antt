use Rattle.std.proofs.Common.{◌≡◌, []}
use Rattle.page_server.specs.Account.{Changes}
use Rattle.cert_sched.specs.Account.{pages_from}
use Rattle.page_accounts.specs.Booting.{CallsMade}
use Rattle.page_accounts.proofs.booting.put_pages.Given as goal

-- the uncommitted account holds the pages below the number
abbrev pub invariant-loop-i : goal.invariant-loop-i
invariant-loop-i g l = record {
  accounts : Changes l.fn.pager l.pager l.pid (λ _. record { now = pages_from 0 l.i l.start.memory; kept = [] });
  fetches : l.pager.fetches ≡ l.fn.pager.fetches;
  counts : CallsMade l.i l.fn.pager.counts l.pager.counts;
}
