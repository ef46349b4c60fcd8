use Rattle.std.proofs.Common.{◌≡◌, ◌<◌, ◌^◌, take, fold}
use Rattle.sys_text.specs.Boot.{roots_of}
use Rattle.plain_kernel.specs.Kernel.{with_chan}
use Rattle.plain_kernel.specs.Maps.{booted_processes}
use Rattle.plain_kernel.specs.Starts.{starts_in, starts_load}
use Rattle.plain_kernel.proofs.booting.starts_of.Given as goal

abbrev pub invariant-loop-chan : goal.invariant-loop-chan
invariant-loop-chan l = record {
  states : starts_in l.starts.entries ≡ fold (with_chan l.system) (booted_processes l.system (roots_of l.system)) (take l.chan-index l.chans);
  room : starts_load l.starts.entries < 2 ^ 28;
}
