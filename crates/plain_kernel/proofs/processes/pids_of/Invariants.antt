use Rattle.std.proofs.Common.{◌≡◌, ◌++◌, map}
use Rattle.std.specs.BTreeMap.{keys}
use Rattle.plain_kernel.specs.Maps.{pid_of}
use Rattle.plain_kernel.proofs.processes.pids_of.Given as goal

abbrev pub invariant-loop-pid : goal.invariant-loop-pid
invariant-loop-pid l = l.pids ++ map pid_of l.pid-iterator ≡ map pid_of (keys l.processes)
