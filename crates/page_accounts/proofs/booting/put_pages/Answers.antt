use Rattle.std.proofs.Common.{◌≡◌, ◌+◌, ◌∙◌, sym, subst, Ok, Err, arith, rules}
use Rattle.page_server.specs.Account.{Changes, with_page}
use Rattle.page_accounts.specs.Booting.{CountsAfterPuts}
use Rattle.page_accounts.proofs.Counts.{one_put, refused_among, then_puts}
use Rattle.page_accounts.proofs.Putting.{page_next}
use Rattle.page_accounts.proofs.booting.put_pages.Goals as goal

pub loop-i-preserved : goal.loop-i-preserved
loop-i-preserved g c =
    let before = c.loop-i.pager in
    let after = c.put_page.new.self in
    let pid = c.args.pid in
    let i = c.loop-i.i in
    record {
      accounts = page_next c.args.pager.now before after pid c.args.start.now.memory i c.loop-i.invariant.accounts
          (subst (λ page. Changes before after pid (with_page i page)) c.page-page.ensures c.in_ok-put_page.ensures.accounts);
      fetches = c.in_ok-put_page.ensures.fetches ∙ c.loop-i.invariant.fetches;
      counts = then_puts i 1 c.args.pager.now.counts before.counts after.counts (Ok tt) c.loop-i.invariant.counts (one_put before.counts after.counts (Ok tt) c.in_ok-put_page.ensures.counts);
    }

pub returns-in_err-put_page-clause-counts : goal.returns-in_err-put_page-clause-counts
returns-in_err-put_page-clause-counts g c =
    let old = c.args.pager.now.counts in
    let mid = c.loop-i.pager.counts in
    let new = c.put_page.new.self.counts in
    let i = c.loop-i.i in
    let n = c.args.start.now.small.pages in
    let refused = c.in_err-put_page.field-0.0 in
    let same : c.from_residual.result ≡ Err refused = search rules in
    let among = then_puts i 1 old mid new (Err refused) c.loop-i.invariant.counts (one_put mid new (Err refused) c.in_err-put_page.ensures.counts) in
    subst (CountsAfterPuts n old new) (sym same) (refused_among (i + 1) n old new refused (omega (arith, c.loop-i-test.true, c.pages-i-end.ensures.pages)) among)
