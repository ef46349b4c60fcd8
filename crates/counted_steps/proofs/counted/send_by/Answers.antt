use Rattle.std.proofs.Common.{Bool, Option, ◌-◌, subst, sym}
use Rattle.sys_calls.specs.declared.steps.Emission.{Emission}
use Rattle.counted_steps.specs.Counted.{MakesSilently, Sends}
use Rattle.counted_steps.proofs.Marked.{sends, not_none}
use Rattle.counted_steps.proofs.counted.send_by.Goals as goal

pub returns : goal.returns
returns c =
    subst (λ (o : Option Emission). Sends c.args.steps c.args.p.now o c.step.new.p) (sym c.sent.ensures)
    (sends c.args.steps c.args.p.now c.make_silent_steps.new.p c.step.new.p c.in_ok-made.made (not_none c.args.steps c.if-steps-eq0.false)
    (subst (λ (b : Bool). MakesSilently (c.args.steps - 1) c.args.p.now b c.make_silent_steps.new.p) c.if-not-branch.false c.in_ok-make_silent_steps.ensures)
    c.in_ok-made.ensures.makes)
