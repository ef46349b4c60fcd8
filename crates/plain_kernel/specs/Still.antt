-- When nothing can move, and the schedule that is taken where none is given.
use Rattle.std.specs.Prelude.{ℕ, zero, suc, ◌≡◌, ◌+◌, ◌%◌, ◌==◌, max, Bool, not, ◌||◌, if◌then◌else◌, find, fold, Option, Some, None, option_map, option_and_then}
use Rattle.std.specs.List.{list_any}
use Rattle.std.specs.Option.{option_or}
use Rattle.t32_base.specs.declared.process.Pid.{Pid}
use Rattle.sys_text.specs.declared.system.System.{System}
use Rattle.proc_state.specs.State.{ProcState, can_take}
use Rattle.sys_calls.specs.Calls.{Next, Silent, Blocked, Forks, Emits, Over}
use Rattle.sys_calls.specs.Next.{next_step, has_step}
use Rattle.plain_kernel.specs.declared.item.Item.{Item}
use Rattle.plain_kernel.specs.declared.item.Item.TheVariants.{Run, Fork, Take}
use Rattle.plain_kernel.specs.Kernel.{Kernel, boot}
use Rattle.plain_kernel.specs.Apply.{apply}

abbrev pub can_act : Pid × ProcState → Bool
can_act e = has_step (next_step e.1) || can_take e.1

-- every process is blocked or over, and none can take a signal
abbrev pub is_still : Kernel → Bool
is_still k = not (list_any can_act k.processes)

-- the process with the lowest pid that has a step
abbrev pub lowest : Kernel → Option (Pid × ProcState)
lowest k = find (λ (e : Pid × ProcState). has_step (next_step e.1)) k.processes

-- the process with the lowest pid that can take a signal
abbrev pub lowest_taker : Kernel → Option (Pid × ProcState)
lowest_taker k = find (λ (e : Pid × ProcState). can_take e.1) k.processes

-- a pid is a cluster's number and 16 times a serial, so these are of one cluster
abbrev pub same_cluster : Pid → Pid → Bool
same_cluster p q = p.0 % 16 == q.0 % 16

abbrev pub higher : Pid → ℕ → Pid × ProcState → ℕ
higher p highest e = if same_cluster e.0 p then max highest (e.0).0 else highest

-- the pid of the next child of p: its cluster's number, and the serial after the highest that is used with it
abbrev pub next_child : Kernel → Pid → Pid
next_child k p = record { 0 = fold (higher p) p.0 k.processes + 16 }

-- a fork step is an item of its own, and any other step a run of one
abbrev pub item_of_step : Kernel → Pid → Next → Item
item_of_step k p (Silent s) = Run p 1
item_of_step k p Blocked = Run p 1
item_of_step k p Forks = Fork p (next_child k p)
item_of_step k p (Emits e s) = Run p 1
item_of_step k p Over = Run p 1

-- the step of the process with the lowest pid that has one
abbrev pub lowest_step : Kernel → Option Item
lowest_step k = option_map (λ (e : Pid × ProcState). item_of_step k e.0 (next_step e.1)) (lowest k)

-- the lowest pid that can take a signal takes it; where none can, the lowest that has a step makes one
unfoldable pub default_item : Kernel → Option Item
default_item k = option_or (option_map (λ (e : Pid × ProcState). Take e.0) (lowest_taker k)) (lowest_step k)

unfoldable pub default_step : Kernel → Option Kernel
default_step k = option_and_then (apply k) (default_item k)

-- so many items of the default schedule
unfoldable pub default_after : ℕ → Kernel → Option Kernel
default_after zero k = Some k
default_after (suc n) k = option_and_then default_step (default_after n k)

-- from one kernel the default schedule leads to another, at which nothing can move
pub record Reaches (from to : Kernel) : Type 0 where
  pub items : ℕ
  pub made : default_after items from ≡ Some to
  pub still : default_item to ≡ None

-- the kernel that the default schedule reaches
abbrev pub IsDefaultRun : System → Kernel → Type 0
IsDefaultRun system k = Reaches (boot system) k
