use Rattle.std.proofs.Common.{◌∙◌, ap, Bool, List, Some, ℕ, eqb, length, sym, subst, true≢false}
use Rattle.proc_state.specs.State.{ProcState, state_of}
use Rattle.bus_msg.specs.declared.entry.Entry.{Entry}
use Rattle.log_renewals.specs.Fresh.{AnswersFresh, ComesToRenewal, LeadsToRenewal}
use Rattle.log_renewals.proofs.Renewing.{none_in, renewal_follows, renewal_leads, renewal_shared, renewal_unled, renewal_unowed, renewal_unsent, renewal_unwritten}
use Rattle.log_renewals.proofs.fresh.next_fresh.Goals as goal

pub returns-then-not-is_empty-clause-decides : goal.returns-then-not-is_empty-clause-decides
returns-then-not-is_empty-clause-decides g c =
    renewal_shared c.args.front.now c.args.limits c.args.head c.args.others.now c.args.to c.args.kept c.args.pager.now (state_of c.args.process.now)
    (λ none. true≢false (sym (ap (λ (xs : List ℕ). eqb (length xs) 0) none) ∙ sym c.is_empty.ensures ∙ c.if-not-is_empty.true))

pub returns-in_default-clause-decides : goal.returns-in_default-clause-decides
returns-in_default-clause-decides g c = renewal_unsent c.args.front.now c.args.limits c.args.head c.args.others.now c.args.to c.args.kept c.args.pager.now
    (state_of c.args.process.now) (sym c.home_may.ensures ∙ c.in_default.is)

pub returns-in_default-backup_told-clause-decides : goal.returns-in_default-backup_told-clause-decides
returns-in_default-backup_told-clause-decides g c =
    renewal_unowed c.args.front.now c.args.limits c.args.head c.args.others.now c.args.to c.args.kept c.args.pager.now (state_of c.args.process.now)
    (sym c.backup_told.ensures ∙ c.in_default-backup_told.is)

pub returns-in-Ok-false-clause-decides : goal.returns-in-Ok-false-clause-decides
returns-in-Ok-false-clause-decides g c =
    renewal_unled c.args.front.now c.args.limits c.args.head c.args.others.now c.args.to c.args.kept c.args.pager.now (state_of c.args.process.now)
    (subst (λ (b : Bool). ComesToRenewal c.args.limits c.args.head.at c.args.kept (state_of c.args.process.now) b (state_of c.come_to_renewal.new.process))
    c.in-Ok-false.field-0-test c.in-Ok-false.ensures.comes)

pub returns-in-Ok-false-is_memory-clause-decides : goal.returns-in-Ok-false-is_memory-clause-decides
returns-in-Ok-false-is_memory-clause-decides g c =
    let comes = subst (λ (b : Bool). ComesToRenewal c.args.limits c.args.head.at c.args.kept (state_of c.args.process.now) b
    (state_of c.come_to_renewal.new.process)) c.in-Ok-true.field-0-test c.in-Ok-true.ensures.comes in
    renewal_unwritten c.args.front.now c.args.limits c.args.head c.args.others.now c.args.to c.args.kept c.args.pager.now (state_of c.args.process.now)
    (state_of c.come_to_renewal.new.process) comes.0
    (sym c.in-Ok-false-is_memory.ensures.is ∙ c.in-Ok-false-is_memory.field-0-test)

pub returns-in-Ok-clause-decides : goal.returns-in-Ok-clause-decides
returns-in-Ok-clause-decides g c =
    let comes = subst (λ (b : Bool). ComesToRenewal c.args.limits c.args.head.at c.args.kept (state_of c.args.process.now) b
    (state_of c.come_to_renewal.new.process)) c.in-Ok-true.field-0-test c.in-Ok-true.ensures.comes in
    subst (λ (e : Entry). AnswersFresh c.args.front.now c.args.limits c.args.head c.args.others.now c.args.to c.args.kept c.args.pager.now
    (state_of c.args.process.now) (Some e)) (sym c.in-Ok.ensures.entry)
    (renewal_follows c.args.front.now c.args.limits c.args.head c.args.others.now c.args.to c.args.kept c.args.pager.now (state_of c.args.process.now)
    c.in-Some.home c.in-Some-backup_told.to (state_of c.come_to_renewal.new.process)
    (none_in c.args.others.now (sym c.is_empty.ensures ∙ c.if-not-is_empty.false)) (sym c.home_may.ensures ∙ c.in-Some.is) (sym c.backup_told.ensures
    ∙ c.in-Some-backup_told.is) comes.0 comes.1
    (sym c.in-Ok-true-is_memory.ensures.is ∙ c.in-Ok-true-is_memory.field-0-test))

pub returns-in-Ok-clause-leads : goal.returns-in-Ok-clause-leads
returns-in-Ok-clause-leads g c =
    let comes = subst (λ (b : Bool). ComesToRenewal c.args.limits c.args.head.at c.args.kept (state_of c.args.process.now) b
    (state_of c.come_to_renewal.new.process)) c.in-Ok-true.field-0-test c.in-Ok-true.ensures.comes in
    subst (λ (t : ProcState). LeadsToRenewal c.args.front.now c.args.limits c.args.head.pid c.args.kept c.args.pager.now (state_of c.args.process.now)
    c.in-Ok.entry t) (sym c.in-Ok.ensures.state)
    (subst (λ (e : Entry). LeadsToRenewal c.args.front.now c.args.limits c.args.head.pid c.args.kept c.args.pager.now (state_of c.args.process.now) e
    (state_of c.come_to_renewal.new.process)) (sym c.in-Ok.ensures.entry)
    (renewal_leads c.args.front.now c.args.limits c.args.head c.args.others.now c.args.to c.args.kept c.args.pager.now (state_of c.args.process.now)
    c.in-Some.home c.in-Some-backup_told.to (state_of c.come_to_renewal.new.process)
    (none_in c.args.others.now (sym c.is_empty.ensures ∙ c.if-not-is_empty.false)) (sym c.home_may.ensures ∙ c.in-Some.is) (sym c.backup_told.ensures
    ∙ c.in-Some-backup_told.is) comes.0 comes.1
    (sym c.in-Ok-true-is_memory.ensures.is ∙ c.in-Ok-true-is_memory.field-0-test)))
