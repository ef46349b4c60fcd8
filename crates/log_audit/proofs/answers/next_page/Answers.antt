use Rattle.std.proofs.Common.{◌∙◌, Ok, Option, Some, subst, sym}
use Rattle.bus_msg.specs.declared.entry.Entry.{Entry}
use Rattle.page_accounts.specs.declared.answering.Answer.{Answer}
use Rattle.page_accounts.specs.Answering.{Answers, HoldsNext, earliest}
use Rattle.log_audit.specs.Answers.{AnswersPage}
use Rattle.log_audit.proofs.Answering.{page_answered, page_refused}
use Rattle.log_audit.proofs.answers.next_page.Goals as goal

pub returns-then-not-page_may-clause-decides : goal.returns-then-not-page_may-clause-decides
returns-then-not-page_may-clause-decides g c =
    page_refused c.args.front.now c.args.pager.now c.args.place c.args.by c.args.pid c.args.index (sym c.page_may.ensures ∙ c.if-not-page_may.true)

pub returns-in_ok-entry-in-Ok-Some-clause-decides :
    goal.returns-in_ok-entry-in-Ok-Some-clause-decides
returns-in_ok-entry-in-Ok-Some-clause-decides g c =
    let one = c.in-Ok-Some.field-0-is in
    subst (λ (e : Entry). AnswersPage c.args.front.now c.args.pager.now c.args.place c.args.by c.args.pid c.args.index (Some e)) (sym c.in_ok-entry-in-Ok-Some.ensures)
    (page_answered c.args.front.now c.args.pager.now c.args.place c.args.by c.args.pid c.args.index c.in-Some.server c.in-Ok-Some.answer (sym c.first_server.ensures ∙ c.in-Some.is)
    (sym c.page_may.ensures ∙ c.if-not-page_may.false)
    (subst (λ (o : Option Answer). Answers c.args.pager.now (earliest c.args.pager.now) (Ok o)) one c.in-Ok-Some.ensures.answers)
    (subst (HoldsNext c.args.pager.now) one c.in-Ok-Some.ensures.holds))
