use Rattle.std.proofs.Common.{Ok, refl, sym, ◌∙◌, subst}
use Rattle.sys_calls.specs.declared.steps.Step.TheVariants.{Silent, Blocked}
use Rattle.sys_calls.specs.Passing.{Passes}
use Rattle.sys_calls.proofs.Ahead.{alone}
use Rattle.sys_calls.proofs.Passing.{call_alone, then_runs, then_went, went_again, went_nowhere}
use Rattle.sys_calls.proofs.stepping.run_on.Goals as goal

pub steps-init : goal.steps-init
steps-init c = went_nowhere c.args.p.now

pub returns-then-can_take-clause-runs : goal.returns-then-can_take-clause-runs
returns-then-can_take-clause-runs c =
    let passed = subst (λ q. Passes q c.steps.p c.pass.new.p) c.in-Silently.is c.in_ok-pass.ensures in
    then_runs (Ok Silent) c.args.p.now c.steps.p c.pass.new.p c.steps.invariant passed

pub steps-preserved-else-can_take : goal.steps-preserved-else-can_take
steps-preserved-else-can_take c =
    let passed = subst (λ q. Passes q c.steps.p c.pass.new.p) c.in-Silently.is c.in_ok-pass.ensures in
    then_went (Ok Silent) c.args.p.now c.steps.p c.pass.new.p refl (sym c.can_take.ensures ∙ c.if-can_take.false) c.steps.invariant passed

pub returns-in-Waiting-clause-runs : goal.returns-in-Waiting-clause-runs
returns-in-Waiting-clause-runs c =
    let passed = subst (λ q. Passes q c.steps.p c.pass.new.p) c.in-Waiting.is c.in_ok-pass.ensures in
    then_runs (Ok Blocked) c.args.p.now c.steps.p c.pass.new.p c.steps.invariant passed

pub returns-then-not-was_silent-clause-runs : goal.returns-then-not-was_silent-clause-runs
returns-then-not-was_silent-clause-runs c =
    let passed = subst (λ q. Passes q c.steps.p c.pass.new.p) c.in-Calling.is c.in_ok-pass.ensures in
    let made = c.call-made.ensures in
    then_runs c.call-made.result c.args.p.now c.pass.new.p c.call-made.new.p (went_again c.args.p.now c.steps.p c.pass.new.p c.steps.invariant passed.0)
    (call_alone c.pass.new.p c.call-made.new.p c.call-made.result passed.1 made.makes made.shorter made.touches)

pub steps-preserved-else-can_take-2-5 : goal.steps-preserved-else-can_take-2-5
steps-preserved-else-can_take-2-5 c =
    let passed = subst (λ q. Passes q c.steps.p c.pass.new.p) c.in-Calling.is c.in_ok-pass.ensures in
    let made = c.call-made.ensures in
    then_went c.call-made.result c.args.p.now c.pass.new.p c.call-made.new.p (sym c.was_silent.ensures ∙ c.if-not-was_silent.false) (sym c.can_take-else-not-was_silent.ensures ∙ c.if-can_take-2.false) (went_again c.args.p.now c.steps.p c.pass.new.p c.steps.invariant passed.0)
    (call_alone c.pass.new.p c.call-made.new.p c.call-made.result passed.1 made.makes made.shorter made.touches)

pub returns-then-not-was_silent-2-clause-runs : goal.returns-then-not-was_silent-2-clause-runs
returns-then-not-was_silent-2-clause-runs c =
    let passed = subst (λ q. Passes q c.steps.p c.pass.new.p) c.in-Leaving.is c.in_ok-pass.ensures in
    let made = c.step-made.ensures in
    then_runs c.step-made.result c.args.p.now c.pass.new.p c.step-made.new.p (went_again c.args.p.now c.steps.p c.pass.new.p c.steps.invariant passed)
    (alone c.pass.new.p c.step-made.new.p c.step-made.result made.makes made.shorter made.touches)

pub steps-preserved-else-can_take-3-5 : goal.steps-preserved-else-can_take-3-5
steps-preserved-else-can_take-3-5 c =
    let passed = subst (λ q. Passes q c.steps.p c.pass.new.p) c.in-Leaving.is c.in_ok-pass.ensures in
    let made = c.step-made.ensures in
    then_went c.step-made.result c.args.p.now c.pass.new.p c.step-made.new.p (sym c.was_silent-in-Leaving.ensures ∙ c.if-not-was_silent-2.false) (sym c.can_take-else-not-was_silent-2.ensures ∙ c.if-can_take-3.false) (went_again c.args.p.now c.steps.p c.pass.new.p c.steps.invariant passed)
    (alone c.pass.new.p c.step-made.new.p c.step-made.result made.makes made.shorter made.touches)
