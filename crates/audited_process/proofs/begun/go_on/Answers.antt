use Rattle.std.proofs.Common.{◌∙◌, sym}
use Rattle.proc_state.specs.State.{state_of}
use Rattle.audited_process.proofs.GoingOn.{both_ok, cuts_go_on, others_go_on}
use Rattle.audited_process.proofs.begun.go_on.Goals as goal

pub returns-in_ok-begun-clause-goes_on : goal.returns-in_ok-begun-clause-goes_on
returns-in_ok-begun-clause-goes_on c =
    cuts_go_on c.args.entry.now c.args.pid (state_of c.args.process.now) c.args.begun.now c.in_ok-begun.field-0 (sym c.is_cut.ensures ∙ c.if-is_cut.true) c.in_ok-begun.ensures

pub returns-else-is_cut-clause-goes_on : goal.returns-else-is_cut-clause-goes_on
returns-else-is_cut-clause-goes_on c =
    both_ok c.arrive.result
    (others_go_on c.args.entry.now c.args.pid (state_of c.args.process.now) c.args.begun.now (state_of c.arrive.new.process) c.arrive.new.begun (sym c.is_cut.ensures ∙ c.if-is_cut.false))
    c.arrive.ensures.state c.arrive.ensures.count
