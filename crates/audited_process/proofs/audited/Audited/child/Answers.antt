use Rattle.std.proofs.Common.{false}
use Rattle.std.proofs.lemmas.Result.{IfOk-weaker}
use Rattle.proc_state.specs.State.{state_of}
use Rattle.audited_process.specs.Audited.{Begins, BeginsAsChild}
use Rattle.audited_process.proofs.Beginning.{begins_as_child}
use Rattle.audited_process.proofs.audited.Audited.child.Goals as goal

pub returns-clause-audited : goal.returns-clause-audited
returns-clause-audited c =
    IfOk-weaker c.begin.result (Begins (state_of c.args.process) false) (BeginsAsChild (state_of c.args.process)) (begins_as_child (state_of c.args.process)) c.begin.ensures
