use Rattle.std.proofs.Common.{◌≡◌, ◌∙◌, sym, ap, subst, List, ℕ, Option, Some, IfOk}
use Rattle.page_server.specs.Account.{PagerState, account, page_in}
use Rattle.page_server.proofs.PagerLaws.{uncommitted_page, place_few, not_nothing, at_slot}
use Rattle.page_server.proofs.pager.Pager.uncommitted.Goals as goal

pub now_at-requires : goal.now_at-requires
now_at-requires g c = place_few c.self.inside.processes c.self.inside.owners.items c.self.invariant.0 c.args.pid.0

pub unreachable-requires : goal.unreachable-requires
unreachable-requires g c =
    let slots = g.D.PageDisk.slots c.self.inside.disk in
    not_nothing slots (page_in (account c.args.self.now c.args.pid).now c.args.i) _
    (uncommitted_page slots c.self.inside.processes c.args.self.now.accounts (ap (λ (s : PagerState). s.accounts) (sym c.self.view_is)) c.args.pid c.args.i)
    (sym c.now_at.ensures ∙ c.in-None.is) c.requires

pub returns-clause-page : goal.returns-clause-page
returns-clause-page g c =
    let slots = g.D.PageDisk.slots c.self.inside.disk in
    let there = uncommitted_page slots c.self.inside.processes c.args.self.now.accounts (ap (λ (s : PagerState). s.accounts) (sym c.self.view_is)) c.args.pid c.args.i
    ∙ ap (at_slot slots) (sym c.now_at.ensures ∙ c.in-Some.is) in
    let family : Option (List ℕ) → Type 0 = λ o. IfOk c.get.result (λ page. o ≡ Some page) in
    subst family (sym there) c.get.ensures.page
