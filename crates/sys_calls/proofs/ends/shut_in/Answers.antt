use Rattle.std.proofs.Common.{arith}
use Rattle.sys_calls.proofs.Shutting.{no_more}
use Rattle.sys_calls.proofs.ends.shut_in.Goals as goal

pub returns-clause-fewer : goal.returns-clause-fewer
returns-clause-fewer c = no_more c.args.ends.now c.from.result (omega arith)
