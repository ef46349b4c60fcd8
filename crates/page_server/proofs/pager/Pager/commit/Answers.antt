use Rattle.std.proofs.Common.{sym, ap, refl}
use Rattle.page_server.specs.Account.{PagerState, committed}
use Rattle.page_server.specs.Slots.{settled}
use Rattle.page_server.proofs.AccountLaws.{account_settled}
use Rattle.page_server.proofs.PagerLaws.{changes, rows_changed, rows_owned, rows_there, settled-moves}
use Rattle.page_server.proofs.pager.Pager.commit.Goals as goal

pub invariant_of-self : goal.invariant_of-self
invariant_of-self g c =
    let slots = g.D.PageDisk.slots c.self.inside.disk in (
      rows_owned c.self.inside.processes c.commit_at.new.processes c.self.inside.owners.items c.args.pid.0 settled c.commit_at.ensures c.self.invariant.0,
      rows_there slots c.self.inside.processes c.commit_at.new.processes c.args.pid.0 settled settled-moves c.commit_at.ensures c.self.invariant.1,
    )

pub returns-clause-accounts : goal.returns-clause-accounts
returns-clause-accounts g c =
    let slots = g.D.PageDisk.slots c.self.inside.disk in
    changes slots slots c.self.inside.processes c.commit_at.new.processes c.args.self.now.accounts (ap (λ (s : PagerState). s.accounts) (sym c.self.view_is)) c.args.pid committed
    (rows_changed slots c.self.inside.processes c.commit_at.new.processes c.args.pid.0 settled committed refl (account_settled slots) c.commit_at.ensures)
