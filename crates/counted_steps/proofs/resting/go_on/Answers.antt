use Rattle.std.proofs.Common.{◌∙◌, Bool, subst, sym}
use Rattle.counted_steps.specs.Resting.{Settles}
use Rattle.counted_steps.proofs.Settling.{moved, settles}
use Rattle.counted_steps.proofs.resting.go_on.Goals as goal

pub returns-then-is_silent : goal.returns-then-is_silent
returns-then-is_silent c =
    moved c.run_instructions.result c.args.p.now c.run_instructions.new.p c.step.new.p c.in_ok-made.made c.run_instructions.ensures.silent c.run_instructions.ensures.shorter.0
    c.in_ok-made.ensures.makes c.in_ok-made.ensures.shorter (sym c.is_silent.ensures ∙ c.if-is_silent.true)

pub returns : goal.returns
returns c =
    subst (λ (b : Bool). Settles c.args.p.now b c.step.new.p) (sym c.rests_after.ensures)
    (settles c.run_instructions.result c.args.p.now c.run_instructions.new.p c.step.new.p c.in_ok-made.made c.run_instructions.ensures.silent c.in_ok-made.ensures.makes (sym c.is_silent.ensures ∙ c.if-is_silent.false))
