use Rattle.std.proofs.Common.{◌∙◌, sym, ap, subst}
use Rattle.std.specs.Prelude.{option_map, Some}
use Rattle.rv_mem.specs.Memory.{page_at}
use Rattle.proc_state.specs.State.{ProcState, state_of}
use Rattle.bus_msg.specs.declared.entry.Entry.{Entry}
use Rattle.log_cuts.specs.Pages.{AnswersPage}
use Rattle.log_cuts.proofs.Paging.{led_within, page_made, page_refused, page_unmade, page_unsent}
use Rattle.log_cuts.proofs.pages.next_page.Goals as goal

pub returns-in_default-clause-decides : goal.returns-in_default-clause-decides
returns-in_default-clause-decides c = page_unsent c.args.front.now c.args.head c.args.index c.args.kept (state_of c.args.process.now) c.args.sent.now (sym c.home_may.ensures ∙ c.in_default.is)

pub returns-then-not-page_may-clause-decides : goal.returns-then-not-page_may-clause-decides
returns-then-not-page_may-clause-decides c =
    page_refused c.args.front.now c.args.head c.args.index c.args.kept (state_of c.args.process.now) c.args.sent.now (sym c.page_may.ensures ∙ c.if-not-page_may.true)

pub page-requires : goal.page-requires
page-requires c =
    led_within c.args.head.at c.args.index c.page_no-index.result (state_of c.args.process.now) c.args.sent.now c.lead.new.self c.in_ok-lead.ensures.leads c.page_no-index.ensures (sym c.page_may.ensures ∙ c.if-not-page_may.false)

pub returns-in_ok-entry-in-Some-page-clause-decides : goal.returns-in_ok-entry-in-Some-page-clause-decides
returns-in_ok-entry-in-Some-page-clause-decides c =
    subst (λ (e : Entry). AnswersPage c.args.front.now c.args.head c.args.index c.args.kept (state_of c.args.process.now) c.args.sent.now (Some e)) (sym c.in_ok-entry-in-Some-page.ensures)
    (page_made c.args.front.now c.args.head c.args.index c.args.kept (state_of c.args.process.now) c.args.sent.now c.in-Some.home c.page_no-index.result c.in-Some-page.bytes (sym c.home_may.ensures ∙ c.in-Some.is)
    (sym c.page_may.ensures ∙ c.if-not-page_may.false) c.page_no-index.ensures
    (ap (option_map (λ (t : ProcState). page_at t.memory c.page_no-index.result)) (sym c.in_ok-lead.ensures.leads) ∙ sym c.page.ensures ∙ c.in-Some-page.is))

pub returns-in-None-clause-decides : goal.returns-in-None-clause-decides
returns-in-None-clause-decides c =
    page_unmade c.args.front.now c.args.head c.args.index c.args.kept (state_of c.args.process.now) c.args.sent.now c.page_no-index.result
    (ap (option_map (λ (t : ProcState). page_at t.memory c.page_no-index.result)) (sym c.in_ok-lead.ensures.leads) ∙ sym c.page.ensures ∙ c.in-None.is)
