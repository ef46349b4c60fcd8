use Rattle.std.proofs.Common.{◌∙◌, sym, ap, is_some}
use Rattle.page_server.specs.Account.{PagerState}
use Rattle.page_server.proofs.PagerLaws.{uncommitted_page, now_is_there, place_few}
use Rattle.page_server.proofs.pager.Pager.has_uncommitted.Goals as goal

pub now_at-requires : goal.now_at-requires
now_at-requires g c = place_few c.self.inside.processes c.self.inside.owners.items c.self.invariant.0 c.args.pid.0

pub returns : goal.returns
returns g c =
    let slots = g.D.PageDisk.slots c.self.inside.disk in
    c.is_some.ensures ∙ ap is_some c.now_at.ensures
    ∙ sym (now_is_there slots c.self.inside.processes c.self.invariant.1 c.args.pid.0 c.args.i)
    ∙ ap is_some (sym (uncommitted_page slots c.self.inside.processes c.args.self.now.accounts (ap (λ (s : PagerState). s.accounts) (sym c.self.view_is)) c.args.pid c.args.i))
