use Rattle.std.specs.BTreeMap.{keys}
use Rattle.plain_kernel.proofs.Ready.{AreAll}
use Rattle.plain_kernel.proofs.processes.pid_set.Given as goal

abbrev pub invariant-loop-pid : goal.invariant-loop-pid
invariant-loop-pid l = AreAll l.pids l.pid-iterator (keys l.processes)
