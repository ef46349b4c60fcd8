use Rattle.std.proofs.Common.{ℕ, Option, arith, subst}
use Rattle.counted_steps.specs.Counted.{GoesOn}
use Rattle.counted_steps.proofs.Marked.{begun, further, no_further}
use Rattle.counted_steps.proofs.counted.make_silent_steps.Goals as goal

pub steps-init : goal.steps-init
steps-init c = record { within = omega arith; made = begun c.args.steps c.args.p.now }

pub steps-preserved : goal.steps-preserved
steps-preserved c =
    let on = subst (λ (o : Option ℕ). GoesOn c.steps.left c.steps.p o c.go_on.new.p) c.in-Some.is c.in_ok-rest.ensures in
    let within = c.steps.invariant.within in
    let less = on.0 in
    record { within = omega (arith, within, less); made = further c.args.steps c.steps.left c.in-Some.rest c.args.p.now c.steps.p c.go_on.new.p within c.steps.invariant.made on }

pub returns-in-None : goal.returns-in-None
returns-in-None c =
    no_further c.args.steps c.steps.left c.args.p.now c.steps.p c.steps.invariant.within c.steps.invariant.made
    (subst (λ (o : Option ℕ). GoesOn c.steps.left c.steps.p o c.go_on.new.p) c.in-None.is c.in_ok-rest.ensures)
