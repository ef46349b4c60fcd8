use Rattle.std.specs.BTreeMap.{keys}
use Rattle.plain_kernel.proofs.Ready.{covers_all, put_next}
use Rattle.plain_kernel.proofs.processes.pid_set.Goals as goal

pub loop-pid-preserved : goal.loop-pid-preserved
loop-pid-preserved c =
    put_next c.in-Some.pid.now c.loop-pid.pids c.insert.new.self c.loop-pid.pid-iterator c.next.new.self (keys c.args.processes.now) c.in_ok-insert.ensures.more c.in-Some.ensures.steps c.loop-pid.invariant

pub returns : goal.returns
returns c = covers_all c.args.processes.now.entries c.loop-pid.pids c.loop-pid.pid-iterator c.in-None.ensures.steps.0 c.loop-pid.invariant
