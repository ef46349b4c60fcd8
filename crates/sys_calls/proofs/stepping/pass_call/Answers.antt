use Rattle.std.proofs.Common.{Ok, ap, sym, ◌∙◌, subst}
use Rattle.std.specs.Prelude.{IfOk}
use Rattle.sys_calls.specs.Steps.{RunsOn, step_of_read}
use Rattle.sys_calls.proofs.Passing.{read_alone}
use Rattle.sys_calls.proofs.stepping.pass_call.Goals as goal

pub returns-in-Ok-true : goal.returns-in-Ok-true
returns-in-Ok-true c =
    let made = c.make_read.ensures in
    subst (λ r. IfOk (step_of_read r) (λ step. RunsOn step c.args.p.now c.make_read.new.p)) (c.in-Ok-true.is ∙ ap Ok c.in-Ok-true.field-0-test)
    (read_alone c.args.p.now c.make_read.new.p c.in-Some.reading c.make_read.result c.requires (sym c.reading_next.ensures.checked ∙ c.in-Some.is) made.makes made.shorter made.touches)

pub returns-in-Ok-false : goal.returns-in-Ok-false
returns-in-Ok-false c =
    let made = c.make_read.ensures in
    subst (λ r. IfOk (step_of_read r) (λ step. RunsOn step c.args.p.now c.make_read.new.p)) (c.in-Ok-false.is ∙ ap Ok c.in-Ok-false.field-0-test)
    (read_alone c.args.p.now c.make_read.new.p c.in-Some.reading c.make_read.result c.requires (sym c.reading_next.ensures.checked ∙ c.in-Some.is) made.makes made.shorter made.touches)
