use Rattle.std.proofs.Common.{true}
use Rattle.std.proofs.lemmas.Result.{IfOk-weaker}
use Rattle.proc_state.specs.State.{state_of}
use Rattle.audited_process.specs.Audited.{Begins, BeginsAsRoot}
use Rattle.audited_process.proofs.Beginning.{begins_as_root}
use Rattle.audited_process.proofs.audited.Audited.root.Goals as goal

pub returns-clause-audited : goal.returns-clause-audited
returns-clause-audited c =
    IfOk-weaker c.begin.result (Begins (state_of c.args.process) true) (BeginsAsRoot (state_of c.args.process)) (begins_as_root (state_of c.args.process)) c.begin.ensures
