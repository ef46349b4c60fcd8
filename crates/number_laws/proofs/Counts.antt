-- The steps that a process has made where it stands after a log.
use Rattle.std.proofs.Common.{◌≡◌, ap, List, Option, Some, None}
use Rattle.std.specs.Prelude.{option_and_then}
use Rattle.std.specs.Option.{option_map_or}
use Rattle.t32_base.specs.declared.process.Pid.{Pid}
use Rattle.sys_text.specs.declared.system.System.{System}
use Rattle.proc_state.specs.State.{ProcState}
use Rattle.plain_kernel.specs.Kernel.{Kernel, process_at}
use Rattle.bus_msg.specs.declared.entry.Entry.{Entry}
use Rattle.cert_sched.specs.Schedule.{done, done_after, plain_after, process_after}

pub done_is : (system : System) (log : List Entry) (p : Pid) (s : ProcState) → process_after system log p ≡ Some s → done_after system log p ≡ (s.small).steps
done_is system log p s there = by_kernel (plain_after system log) there
  where
    by_kernel : (o : Option Kernel) → option_and_then (λ k. process_at k p) o ≡ Some s → option_map_or (λ k. done k p) o 0 ≡ (s.small).steps
    by_kernel None is = cc
    by_kernel (Some k) is = ap (λ (o : Option ProcState). option_map_or (λ (s : ProcState). (s.small).steps) o 0) is
