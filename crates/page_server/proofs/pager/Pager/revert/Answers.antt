use Rattle.std.proofs.Common.{sym, ap, refl}
use Rattle.page_server.specs.Account.{PagerState, reverted}
use Rattle.page_server.specs.Slots.{restored}
use Rattle.page_server.proofs.AccountLaws.{account_restored}
use Rattle.page_server.proofs.PagerLaws.{changes, rows_changed, rows_owned, rows_there, restored-moves}
use Rattle.page_server.proofs.pager.Pager.revert.Goals as goal

pub invariant_of-self : goal.invariant_of-self
invariant_of-self g c =
    let slots = g.D.PageDisk.slots c.self.inside.disk in (
      rows_owned c.self.inside.processes c.revert_at.new.processes c.self.inside.owners.items c.args.pid.0 restored c.revert_at.ensures c.self.invariant.0,
      rows_there slots c.self.inside.processes c.revert_at.new.processes c.args.pid.0 restored restored-moves c.revert_at.ensures c.self.invariant.1,
    )

pub returns-clause-accounts : goal.returns-clause-accounts
returns-clause-accounts g c =
    let slots = g.D.PageDisk.slots c.self.inside.disk in
    changes slots slots c.self.inside.processes c.revert_at.new.processes c.args.self.now.accounts (ap (λ (s : PagerState). s.accounts) (sym c.self.view_is)) c.args.pid reverted
    (rows_changed slots c.self.inside.processes c.revert_at.new.processes c.args.pid.0 restored reverted refl (account_restored slots) c.revert_at.ensures)
