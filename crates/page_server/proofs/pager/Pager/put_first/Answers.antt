use Rattle.std.proofs.Common.{sym, ap, refl}
use Rattle.page_server.specs.Account.{PagerState}
use Rattle.page_server.specs.Places.{accounts_of}
use Rattle.page_server.proofs.PagerLaws.{place_few, sames, admitted, admitted_there, put_owned, put_there, put_accounts}
use Rattle.page_server.proofs.pager.Pager.put_first.Goals as goal

pub returns-then-is_err-clause-accounts : goal.returns-then-is_err-clause-accounts
returns-then-is_err-clause-accounts g c =
    let slots = g.D.PageDisk.slots c.self.inside.disk in
    sames slots slots c.self.inside.processes c.admit.new.processes c.args.self.now.accounts (ap (λ (s : PagerState). s.accounts) (sym c.self.view_is))
    (admitted slots c.self.inside.processes c.admit.new.processes c.admit.ensures.admits)

pub put_if_there-requires : goal.put_if_there-requires
put_if_there-requires g c = place_few c.admit.new.processes c.admit.new.owners.items c.admit.ensures.owned c.args.pid.0

pub invariant_of-self-2 : goal.invariant_of-self-2
invariant_of-self-2 g c =
    let before = g.D.PageDisk.slots c.self.inside.disk in
    let after = g.D.PageDisk.slots c.put_if_there.new.disk in (
      put_owned c.admit.new.processes c.put_if_there.new.processes c.admit.new.owners.items before after c.args.pid.0 c.args.i c.args.page.now c.in-Some.done c.in-Some.ensures.puts c.admit.ensures.owned,
      put_there c.admit.new.processes c.put_if_there.new.processes before after c.args.pid.0 c.args.i c.args.page.now c.in-Some.done c.in-Some.ensures.puts
          (admitted_there before c.self.inside.processes c.admit.new.processes c.admit.ensures.admits c.self.invariant.1),
    )

pub returns-clause-accounts : goal.returns-clause-accounts
returns-clause-accounts g c =
    let before = g.D.PageDisk.slots c.self.inside.disk in
    let after = g.D.PageDisk.slots c.put_if_there.new.disk in
    let new : PagerState = record { accounts = accounts_of after c.put_if_there.new.processes.entries; fetches = c.self.inside.fetches; counts = g.D.PageDisk.counts c.put_if_there.new.disk } in
    put_accounts before after c.self.inside.processes c.admit.new.processes c.put_if_there.new.processes c.admit.new.owners.items c.args.self.now new (ap (λ (s : PagerState). s.accounts) (sym c.self.view_is)) refl
    c.args.pid c.args.i c.args.page.now c.in-Some.done c.admit.ensures.admits c.admit.ensures.owned c.in-Some.ensures.puts
