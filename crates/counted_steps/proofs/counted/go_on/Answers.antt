use Rattle.std.proofs.Common.{ℕ, ◌∙◌, ap, sym, arith}
use Rattle.sys_calls.specs.Next.{silently_marked}
use Rattle.sys_calls.specs.Steps.{marked}
use Rattle.counted_steps.proofs.Marked.{fewer, goes_on, goes_not}
use Rattle.counted_steps.proofs.counted.go_on.Goals as goal

pub returns-then-is_silent : goal.returns-then-is_silent
returns-then-is_silent c =
    let same = c.from-done.ensures in
    let within = c.run_instructions.ensures.made in
    let most = c.capped.ensures in
    goes_on c.args.left c.from-done.result c.args.p.now c.run_instructions.new.p c.step.new.p c.in_ok-made.made
    (fewer c.args.left c.from-done.result (omega (arith, same, within, most)) c.if-done-left.false)
    (ap (λ (k : ℕ). silently_marked k (marked c.args.p.now)) same ∙ c.run_instructions.ensures.silent)
    c.in_ok-made.ensures.makes c.in_ok-made.ensures.marks (sym c.is_silent.ensures ∙ c.if-is_silent.true)

pub returns : goal.returns
returns c =
    let same = c.from-done.ensures in
    let within = c.run_instructions.ensures.made in
    let most = c.capped.ensures in
    goes_not c.args.left c.from-done.result c.args.p.now c.run_instructions.new.p c.step.new.p c.in_ok-made.made
    (fewer c.args.left c.from-done.result (omega (arith, same, within, most)) c.if-done-left.false)
    (ap (λ (k : ℕ). silently_marked k (marked c.args.p.now)) same ∙ c.run_instructions.ensures.silent)
    c.in_ok-made.ensures.makes (sym c.is_silent.ensures ∙ c.if-is_silent.false)
