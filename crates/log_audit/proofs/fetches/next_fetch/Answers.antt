use Rattle.std.proofs.Common.{ℕ, ◌∙◌, Some, ap, subst, sym}
use Rattle.bus_msg.specs.declared.entry.Entry.{Entry}
use Rattle.log_audit.specs.Fetches.{AnswersFetch, fetch_entry}
use Rattle.log_audit.proofs.Asking.{fetch_follows, fetch_refused, fetch_unsent}
use Rattle.log_audit.proofs.fetches.next_fetch.Goals as goal

pub returns-in-None : goal.returns-in-None
returns-in-None c = fetch_unsent c.args.front.now c.args.place c.args.by c.args.pid c.args.index c.args.kept (sym c.home.ensures ∙ c.in-None.is)

pub returns-then-not-ask_may : goal.returns-then-not-ask_may
returns-then-not-ask_may c = fetch_refused c.args.front.now c.args.place c.args.by c.args.pid c.args.index c.args.kept (sym c.ask_may.ensures ∙ c.if-not-ask_may.true)

pub returns : goal.returns
returns c =
    subst (λ (e : Entry). AnswersFetch c.args.front.now c.args.place c.args.by c.args.pid c.args.index c.args.kept (Some e))
    (sym (c.entry_at.ensures ∙ ap (λ (n : ℕ). fetch_entry c.args.front.now c.args.place c.in-Some.home c.args.pid n) c.page_no-index.ensures))
    (fetch_follows c.args.front.now c.args.place c.args.by c.args.pid c.args.index c.args.kept c.in-Some.home (sym c.home.ensures ∙ c.in-Some.is) (sym c.ask_may.ensures ∙ c.if-not-ask_may.false))
