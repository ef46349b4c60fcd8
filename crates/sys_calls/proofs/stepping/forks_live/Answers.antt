use Rattle.std.proofs.Common.{sym, ◌∙◌}
use Rattle.proc_state.specs.State.{state_of}
use Rattle.sys_calls.proofs.ForkLaws.{called_forks}
use Rattle.sys_calls.proofs.stepping.forks_live.Goals as goal

pub returns : goal.returns
returns c =
    c.would_fork.ensures ∙ sym (called_forks (state_of c.args.p.now) _ (sym c.is_spent_up.ensures ∙ c.if-is_spent_up.false) (sym c.stands_at_call.ensures ∙ c.if-not-stands_at_call.false))
