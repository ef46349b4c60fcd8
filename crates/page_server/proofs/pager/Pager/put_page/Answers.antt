use Rattle.std.proofs.Common.{sym, ap, refl, inl}
use Rattle.page_server.specs.Account.{PagerState}
use Rattle.page_server.specs.Places.{accounts_of}
use Rattle.page_server.proofs.PagerLaws.{place_few, put_owned, put_there, put_accounts}
use Rattle.page_server.proofs.pager.Pager.put_page.Goals as goal

pub put_if_there-requires : goal.put_if_there-requires
put_if_there-requires g c = place_few c.self.inside.processes c.self.inside.owners.items c.self.invariant.0 c.args.pid.0

pub invariant_of-self : goal.invariant_of-self
invariant_of-self g c =
    let before = g.D.PageDisk.slots c.self.inside.disk in
    let after = g.D.PageDisk.slots c.put_if_there.new.disk in (
      put_owned c.self.inside.processes c.put_if_there.new.processes c.self.inside.owners.items before after c.args.pid.0 c.args.i c.args.page.now c.in-Some.done c.in-Some.ensures.puts c.self.invariant.0,
      put_there c.self.inside.processes c.put_if_there.new.processes before after c.args.pid.0 c.args.i c.args.page.now c.in-Some.done c.in-Some.ensures.puts c.self.invariant.1,
    )

pub returns-in-Some-clause-accounts : goal.returns-in-Some-clause-accounts
returns-in-Some-clause-accounts g c =
    let before = g.D.PageDisk.slots c.self.inside.disk in
    let after = g.D.PageDisk.slots c.put_if_there.new.disk in
    let new : PagerState = record { accounts = accounts_of after c.put_if_there.new.processes.entries; fetches = c.self.inside.fetches; counts = g.D.PageDisk.counts c.put_if_there.new.disk } in
    put_accounts before after c.self.inside.processes c.self.inside.processes c.put_if_there.new.processes c.self.inside.owners.items c.args.self.now new (ap (λ (s : PagerState). s.accounts) (sym c.self.view_is)) refl
    c.args.pid c.args.i c.args.page.now c.in-Some.done (λ q. inl refl) c.self.invariant.0 c.in-Some.ensures.puts
