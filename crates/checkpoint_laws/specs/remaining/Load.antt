-- What the processes of the kernel without failures have left, with the children that they may still fork.
use Rattle.std.specs.Prelude.{ℕ, ◌+◌, ◌*◌, List}
use Rattle.std.specs.List.{sum_by}
use Rattle.std.specs.Option.{option_map_or}
use Rattle.t32_base.specs.declared.process.Pid.{Pid}
use Rattle.t32_base.specs.Small.{SmallState}
use Rattle.sys_text.specs.declared.system.System.{System}
use Rattle.proc_state.specs.State.{ProcState}
use Rattle.sys_calls.specs.Small.{weight_with_children}
use Rattle.plain_kernel.specs.Kernel.{Kernel}
use Rattle.bus_msg.specs.declared.entry.Entry.{Entry}
use Rattle.cert_sched.specs.Schedule.{plain_after}

-- ---- steps

-- the most steps that all processes of a kernel without failures have left, and the children that they may still fork
abbrev pub kernel_load : Kernel → ℕ
kernel_load k = sum_by (λ (e : Pid × ProcState). weight_with_children (e.1).small) k.processes

-- the same of the kernel after a log
abbrev pub log_load : System → List Entry → ℕ
log_load system log = option_map_or kernel_load (plain_after system log) 0

-- ---- births

-- at least as much as the next child of a process may send beside its steps: a synchronisation, one that takes a signal, and each of its pages at each step count that the child can have
abbrev pub left_of_child : SmallState → ℕ
left_of_child s = 2 + s.pages * (s.left + 34)

-- the same of all children that the process, and they, may still fork
abbrev pub left_of_children : SmallState → ℕ
left_of_children s = s.births * left_of_child s

-- the same of all processes of a kernel without failures
abbrev pub kernel_births : Kernel → ℕ
kernel_births k = sum_by (λ (e : Pid × ProcState). left_of_children (e.1).small) k.processes

-- and of the kernel after a log
abbrev pub log_births : System → List Entry → ℕ
log_births system log = option_map_or kernel_births (plain_after system log) 0
