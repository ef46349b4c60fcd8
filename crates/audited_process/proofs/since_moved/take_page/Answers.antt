use Rattle.std.proofs.Common.{Bool, ◌∙◌, subst, sym}
use Rattle.std.proofs.lemmas.Result.{on_ok_weaker}
use Rattle.audited_process.specs.Pages.{TakesPages}
use Rattle.audited_process.proofs.Paging.{page_put, pages_gone, pages_left}
use Rattle.audited_process.proofs.since_moved.take_page.Goals as goal

pub returns-then-moved : goal.returns-then-moved
returns-then-moved c =
    subst (λ (b : Bool). TakesPages c.args.pid b c.args.sent.now c.clear.new.self c.args.entry.now) (sym c.if-moved.true)
    (pages_gone c.args.pid c.args.entry.now c.args.sent.now c.clear.new.self c.clear.ensures.none)

pub returns-in-Some : goal.returns-in-Some
returns-in-Some c =
    on_ok_weaker c.put.result
    (λ puts. subst (λ (b : Bool). TakesPages c.args.pid b c.args.sent.now c.put.new.self c.args.entry.now) (sym c.if-moved.false)
    (page_put c.args.pid c.args.entry.now c.in-Some.index c.in-Some.at c.args.sent.now c.put.new.self (sym c.page_sent.ensures ∙ c.in-Some.is) puts))
    c.put.ensures

pub returns-in-None : goal.returns-in-None
returns-in-None c =
    subst (λ (b : Bool). TakesPages c.args.pid b c.args.sent.now c.args.sent.now c.args.entry.now) (sym c.if-moved.false)
    (pages_left c.args.pid c.args.entry.now c.args.sent.now (sym c.page_sent.ensures ∙ c.in-None.is))
