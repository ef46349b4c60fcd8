use Rattle.std.proofs.Common.{sym, ap}
use Rattle.page_server.specs.Account.{PagerState, no_pages}
use Rattle.page_server.proofs.PagerLaws.{changes, gone}
use Rattle.page_server.proofs.pager.Pager.forget.Goals as goal

pub returns-clause-accounts : goal.returns-clause-accounts
returns-clause-accounts g c =
    let slots = g.D.PageDisk.slots c.self.inside.disk in
    changes slots slots c.self.inside.processes c.leave.new.processes c.args.self.now.accounts (ap (λ (s : PagerState). s.accounts) (sym c.self.view_is)) c.args.pid (λ _. no_pages)
    (gone slots c.self.inside.processes c.leave.new.processes c.args.pid.0 c.leave.ensures.gone)
