use Rattle.std.proofs.Common.{ℕ, ◌≡◌, ◌≤◌, ◌+◌, ◌*◌, length, Some}
use Rattle.plain_kernel.specs.Still.{default_after}
use Rattle.plain_kernel.specs.Maps.{kernel_of, total_load, Covers, NoneTakes, PidsFit}
use Rattle.plain_kernel.proofs.running.run_to_end.Given as goal

abbrev pub invariant-turns : goal.invariant-turns
invariant-turns l = record {
  items : ℕ;
  made : default_after items (kernel_of l.fn.processes.entries l.fn.ttys.entries) ≡ Some (kernel_of l.processes.entries l.ttys.entries);
  lighter : total_load l.processes.entries ≤ total_load l.fn.processes.entries;
  covers : Covers l.processes.entries l.ready;
  fits : PidsFit l.processes.entries;
  none_takes : NoneTakes l.processes.entries;
}

abbrev pub decreases-turns : goal.decreases-turns
decreases-turns l = 2 * total_load l.processes.entries + length l.ready
