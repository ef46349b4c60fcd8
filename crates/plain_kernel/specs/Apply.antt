-- The items of a schedule, and what they make of a kernel.
use Rattle.std.specs.Prelude.{ℕ, zero, suc, ◌==◌, if◌then◌else◌, List, [], ◌∷◌, Option, Some, None, option_and_then}
use Rattle.t32_base.specs.declared.process.Pid.{Pid}
use Rattle.sys_text.specs.declared.system.System.{System}
use Rattle.proc_state.specs.State.{ProcState, can_take}
use Rattle.sys_calls.specs.Calls.{Next, Silent, Blocked, Forks, Emits, Over}
use Rattle.sys_calls.specs.Next.{next_step}
use Rattle.sys_calls.specs.Fork.{fork_child, fork_parent}
use Rattle.sys_calls.specs.Take.{taken}
use Rattle.plain_kernel.specs.declared.item.Item.{Item}
use Rattle.plain_kernel.specs.declared.item.Item.TheVariants.{Run, Fork, Take}
use Rattle.plain_kernel.specs.Kernel.{Kernel, process_at, with_process, boot, emitted}

-- a step that is silent or emits, whose letter is delivered at once
abbrev pub after_step : Kernel → Pid → Next → Option Kernel
after_step k p (Silent s) = Some (with_process k p s)
after_step k p (Emits e s) = Some (emitted (with_process k p s) e)
after_step k p Blocked = None
after_step k p Forks = None
after_step k p Over = None

-- one step of a process that is there, which is no fork
unfoldable pub one_step : Pid → Kernel → Option Kernel
one_step p k = option_and_then (λ s. after_step k p (next_step s)) (process_at k p)

-- n such steps
unfoldable pub steps : ℕ → Pid → Kernel → Option Kernel
steps zero p k = Some k
steps (suc n) p k = option_and_then (one_step p) (steps n p k)

-- the fork of a process, where its next step is one and the child's pid is not there yet
abbrev pub after_fork : Kernel → Pid → Pid → ProcState → Next → Option ProcState → Option Kernel
after_fork k p c s Forks None = Some (with_process (with_process k p (fork_parent s c)) c (fork_child s c))
after_fork k p c s Forks (Some child) = None
after_fork k p c s (Silent t) o = None
after_fork k p c s Blocked o = None
after_fork k p c s (Emits e t) o = None
after_fork k p c s Over o = None

-- the fork step of a process that is there
unfoldable pub fork_step : Pid → Pid → Kernel → Option Kernel
fork_step p c k = option_and_then (λ s. after_fork k p c s (next_step s) (process_at k c)) (process_at k p)

-- a process that is there takes the first signal that waits for it, where it can
unfoldable pub take_step : Pid → Kernel → Option Kernel
take_step p k = option_and_then (λ s. if can_take s then Some (with_process k p (taken s)) else None) (process_at k p)

-- an item, where it can be applied
abbrev pub apply : Kernel → Item → Option Kernel
apply k (Run p n) = if n == 0 then None else steps n p k
apply k (Fork p c) = fork_step p c k
apply k (Take p) = take_step p k

-- items in order, where each can be applied
abbrev pub apply_all : List Item → Kernel → Option Kernel
apply_all [] k = Some k
apply_all (i ∷ is) k = option_and_then (apply_all is) (apply k i)

-- the run of a schedule
abbrev pub plain_run : System → List Item → Option Kernel
plain_run system items = apply_all items (boot system)
