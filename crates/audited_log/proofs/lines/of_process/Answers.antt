use Rattle.std.proofs.Common.{◌≡◌, sym, ◌∙◌, ap, arith, subst, Some, None}
use Rattle.t32_base.specs.declared.process.Pid.{Pid}
use Rattle.cert_sched.proofs.MayLaws.{legal_may_stand}
use Rattle.audited_log.specs.Processes.{kept_at}
use Rattle.audited_log.proofs.Answering.{absent_refused, one_answers, one_leads, state_one}
use Rattle.audited_log.proofs.lines.of_process.Goals as goal

pub returns-in_default-clause-decides : goal.returns-in_default-clause-decides
returns-in_default-clause-decides c =
    let above = c.in_default.ensures in
    absent_refused c.args.state.now c.args.told.now c.args.number c.requires.doer (λ p number below. absurd (omega (arith, above, number, below)))

pub returns-in_default-get_mut-clause-decides : goal.returns-in_default-get_mut-clause-decides
returns-in_default-get_mut-clause-decides c =
    absent_refused c.args.state.now c.args.told.now c.args.number c.requires.doer
    (λ p number below.
    let me : c.in-Some.pid ≡ p = λ i. record { 0 = (c.in-Some.ensures ∙ sym number) i } in
    subst (λ (p : Pid). kept_at (c.args.state.now.processes).entries p ≡ None) me (sym c.in_default-get_mut.ensures.value))

pub of_kept-requires-clause-ahead : goal.of_kept-requires-clause-ahead
of_kept-requires-clause-ahead c =
    let some = c.requires.ready.some in
    ((state_one c.args.state.now c.args.told.now c.in-Some.pid c.in-Some-get_mut.audited.now c.requires.ready.next
    (sym c.in-Some-get_mut.ensures.value) some.system some.log some.valid (legal_may_stand some.system some.log some.legal) some.is).one).ahead

pub returns-clause-decides : goal.returns-clause-decides
returns-clause-decides c =
    one_answers c.args.state.now c.args.told.now c.in-Some.pid c.in-Some-get_mut.audited.now c.requires.ready.next
    (sym c.in-Some-get_mut.ensures.value) c.in_ok-answer.answer c.in_ok-answer.ensures.decides

pub returns-clause-leads : goal.returns-clause-leads
returns-clause-leads c =
    one_leads c.args.state.now c.args.told.now c.in-Some.pid c.in-Some-get_mut.audited.now c.requires.ready.next (sym c.in-Some-get_mut.ensures.value) c.of_kept.new.common
    (c.get_mut.follows.lender c.of_kept.new.audited) c.of_kept.new.audited (c.requires.doer ∙ ap Some (sym c.in-Some.ensures))
    (c.get_mut.follows.holds c.of_kept.new.audited).0 c.of_kept.ensures.common
    c.in_ok-answer.answer c.in_ok-answer.ensures.decides c.in_ok-answer.ensures.leads
