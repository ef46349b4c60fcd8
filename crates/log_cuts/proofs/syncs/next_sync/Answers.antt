use Rattle.std.proofs.Common.{◌∙◌, Bool, sym, subst}
use Rattle.proc_state.specs.State.{state_of}
use Rattle.log_cuts.specs.Syncs.{ComesToCut}
use Rattle.log_cuts.proofs.Cutting.{cut_answers, cut_stands, cut_unled, cut_unsent, cut_unwritten}
use Rattle.log_cuts.proofs.syncs.next_sync.Goals as goal

pub returns-in_default-clause-decides : goal.returns-in_default-clause-decides
returns-in_default-clause-decides g c =
    cut_unsent c.args.front.now c.args.limits c.args.head c.args.kept c.args.start.now c.args.pager.now (state_of c.args.process.now) c.args.took (sym c.home_may.ensures ∙ c.in_default.is)

pub returns-in-Ok-false-clause-decides : goal.returns-in-Ok-false-clause-decides
returns-in-Ok-false-clause-decides g c =
    cut_unled c.args.front.now c.args.limits c.args.head c.args.kept c.args.start.now c.args.pager.now (state_of c.args.process.now) c.args.took
    (subst (λ (b : Bool). ComesToCut c.args.limits c.args.head.at c.args.kept c.args.start.now.stated c.args.took (state_of c.args.process.now) b (state_of c.come_to_cut.new.process)) c.in-Ok-false.field-0-test c.in-Ok-false.ensures.comes)

pub returns-in-Ok-false-is_memory-clause-decides : goal.returns-in-Ok-false-is_memory-clause-decides
returns-in-Ok-false-is_memory-clause-decides g c =
    let comes = subst (λ (b : Bool). ComesToCut c.args.limits c.args.head.at c.args.kept c.args.start.now.stated c.args.took (state_of c.args.process.now) b (state_of c.come_to_cut.new.process)) c.in-Ok-true.field-0-test c.in-Ok-true.ensures.comes in
    cut_unwritten c.args.front.now c.args.limits c.args.head c.args.kept c.args.start.now c.args.pager.now (state_of c.args.process.now) c.args.took (state_of c.come_to_cut.new.process) comes.0
    (sym c.in-Ok-false-is_memory.ensures.is ∙ c.in-Ok-false-is_memory.field-0-test)

pub returns-in-Ok-clause-decides : goal.returns-in-Ok-clause-decides
returns-in-Ok-clause-decides g c =
    let comes = subst (λ (b : Bool). ComesToCut c.args.limits c.args.head.at c.args.kept c.args.start.now.stated c.args.took (state_of c.args.process.now) b (state_of c.come_to_cut.new.process)) c.in-Ok-true.field-0-test c.in-Ok-true.ensures.comes in
    cut_answers c.args.front.now c.args.limits c.args.head c.args.kept c.args.start.now c.args.pager.now (state_of c.args.process.now) c.args.took c.in-Some.home (state_of c.come_to_cut.new.process) (state_of c.cut.new.process) c.in-Ok.entry
    (sym c.home_may.ensures ∙ c.in-Some.is) comes.0 comes.1 (sym c.in-Ok-true-is_memory.ensures.is ∙ c.in-Ok-true-is_memory.field-0-test) c.in-Ok.ensures

pub returns-in-Ok-clause-leads : goal.returns-in-Ok-clause-leads
returns-in-Ok-clause-leads g c =
    let comes = subst (λ (b : Bool). ComesToCut c.args.limits c.args.head.at c.args.kept c.args.start.now.stated c.args.took (state_of c.args.process.now) b (state_of c.come_to_cut.new.process)) c.in-Ok-true.field-0-test c.in-Ok-true.ensures.comes in
    cut_stands c.args.front.now c.args.limits c.args.head c.args.kept c.args.start.now c.args.pager.now (state_of c.args.process.now) c.args.took c.in-Some.home (state_of c.come_to_cut.new.process) (state_of c.cut.new.process) c.in-Ok.entry
    (sym c.home_may.ensures ∙ c.in-Some.is) comes.0 comes.1 (sym c.in-Ok-true-is_memory.ensures.is ∙ c.in-Ok-true-is_memory.field-0-test) c.in-Ok.ensures
