use Rattle.std.proofs.Common.{◌+◌, Bool, Option, subst}
use Rattle.proc_state.specs.State.{state_of}
use Rattle.sys_calls.proofs.Ahead.{more, none_made}
use Rattle.counted_steps.specs.Resting.{Continues}
use Rattle.counted_steps.proofs.Settling.{settles_later}
use Rattle.counted_steps.proofs.resting.settle.Goals as goal

pub steps-init : goal.steps-init
steps-init c = record { steps = 0; made = none_made (state_of c.args.p.now) }

pub returns-in-Some : goal.returns-in-Some
returns-in-Some c =
    settles_later c.steps.invariant.steps c.args.p.now c.steps.p c.go_on.new.p c.in-Some.resting c.steps.invariant.made
    (subst (λ (o : Option Bool). Continues c.steps.p o c.go_on.new.p) c.in-Some.is c.in_ok-resting.ensures)

pub steps-preserved : goal.steps-preserved
steps-preserved c =
    let on = subst (λ (o : Option Bool). Continues c.steps.p o c.go_on.new.p) c.in-None.is c.in_ok-resting.ensures in
    let i = c.steps.invariant in
    record { steps = i.steps + on.steps; made = more i.steps on.steps (state_of c.args.p.now) (state_of c.steps.p) (state_of c.go_on.new.p) i.made on.silent }
