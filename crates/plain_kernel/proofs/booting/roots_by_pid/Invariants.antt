use Rattle.std.proofs.Common.{◌≡◌, ◌≤◌, ◌*◌, [], take}
use Rattle.sys_text.specs.Boot.{with_pids}
use Rattle.plain_kernel.specs.Maps.{booted_processes}
use Rattle.plain_kernel.specs.Starts.{starts_in, starts_load}
use Rattle.plain_kernel.proofs.booting.roots_by_pid.Given as goal

abbrev pub invariant-loop-number : goal.invariant-loop-number
invariant-loop-number l = record {
  states : starts_in l.starts.entries ≡ booted_processes l.system (with_pids [] (take l.number l.roots));
  load : starts_load l.starts.entries ≤ l.number * 6402176;
}
