use Rattle.std.proofs.Common.{◌≡◌, ◌≤◌, ◌-◌, Some, IsSome}
use Rattle.std.specs.BTreeMap.{get}
use Rattle.std.specs.Ordering.{nat_cmp}
use Rattle.plain_kernel.specs.Apply.{steps}
use Rattle.plain_kernel.specs.Maps.{kernel_of, pid_of, total_load}
use Rattle.plain_kernel.proofs.running.run_steps.Given as goal

abbrev pub invariant-steps : goal.invariant-steps
invariant-steps l = record {
  within : l.done ≤ l.most;
  made : steps l.done (pid_of l.pid) (kernel_of l.fn.processes.entries l.fn.ttys.entries) ≡ Some (kernel_of l.processes.entries l.ttys.entries);
  there : IsSome (get nat_cmp l.processes l.pid);
  lighter : total_load l.processes.entries ≤ total_load l.fn.processes.entries;
}

abbrev pub decreases-steps : goal.decreases-steps
decreases-steps l = l.most - l.done
