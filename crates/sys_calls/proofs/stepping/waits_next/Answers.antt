use Rattle.std.proofs.Common.{sym, ◌∙◌}
use Rattle.proc_state.specs.State.{state_of}
use Rattle.sys_calls.proofs.Waiting.{reads, uncalled, unread}
use Rattle.sys_calls.proofs.stepping.waits_next.Goals as goal

pub returns-then-stands_at_call : goal.returns-then-stands_at_call
returns-then-stands_at_call c =
    c.waits.ensures
    ∙ reads (state_of c.args.p.now) c.in-Some.reading (sym c.is_spent_up.ensures ∙ c.if-is_spent_up.false) (sym c.stands_at_call.ensures ∙ c.if-stands_at_call.true) (sym c.reading_next.ensures.checked ∙ c.in-Some.is)

pub returns-else-stands_at_call : goal.returns-else-stands_at_call
returns-else-stands_at_call c = c.if-stands_at_call.false ∙ sym (uncalled (state_of c.args.p.now) _ (sym c.stands_at_call.ensures ∙ c.if-stands_at_call.false))

pub returns-in-None : goal.returns-in-None
returns-in-None c = sym (unread (state_of c.args.p.now) _ (sym c.reading_next.ensures.checked ∙ c.in-None.is))
