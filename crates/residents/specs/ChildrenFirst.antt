-- Children first: a process that is due to synchronise, that is to get a new backup, or that is to end, lets its children that never synchronised do so before.
use Rattle.std.specs.Prelude.{ℕ, Bool, false, not, ◌&&◌, ◌||◌, if◌then◌else◌, List, Option, None, option_and_then}
use Rattle.std.specs.Option.{option_map_or}
use Rattle.t32_base.specs.declared.process.Pid.{Pid}
use Rattle.proc_state.specs.State.{state_of}
use Rattle.sys_calls.specs.Next.{next_step, is_exit}
use Rattle.plain_kernel.specs.Maps.{pid_of}
use Rattle.birth_notice.specs.Family.{first_unsynced}
use Rattle.quanta.specs.declared.limits.Limits.{Limits}
use Rattle.quanta.specs.Limited.{is_due}
use Rattle.residents.specs.Duty.{DutyView, is_able, is_owed}
use Rattle.residents.specs.Held.{Held, Runs, Rolls, Waits, held_of, runs_at}

-- one that runs and is due, or stands before its end, comes after its children
abbrev pub comes_after_children : Limits → Held → Bool
comes_after_children limits (Runs p) = is_due limits p || is_exit (next_step (state_of p))
comes_after_children limits (Rolls p counts births) = false
comes_after_children limits (Waits waiting) = false

-- so does the process with a pid, if it is here
abbrev pub comes_after_at : Limits → List (Pid × Held) → Pid → Bool
comes_after_at limits here p = option_map_or (comes_after_children limits) (held_of here p) false

-- one that is to get a new backup comes after its children too
abbrev pub comes_after : DutyView → Pid × Held → Bool
comes_after duty e = is_owed duty e || comes_after_children duty.limits e.1

-- the child that is to synchronise in the place of a process here, by the births of the children that never did
abbrev pub child_before : DutyView → List (Pid × Pid) → List (Pid × Held) → Pid → Option Pid
child_before duty family here p = option_and_then (λ (h : Held). if comes_after duty (p, h) then first_unsynced family p else None) (held_of here p)

-- that child does not run yet, so neither of them can synchronise
abbrev pub is_hindered : DutyView → List (Pid × Pid) → List (Pid × Held) → Pid → Bool
is_hindered duty family here p = option_map_or (λ (child : Pid). not (runs_at here child)) (child_before duty family here p) false

-- the same of a process by its number
abbrev pub is_free : DutyView → List (Pid × Pid) → List (Pid × Held) → ℕ → Bool
is_free duty family here n = not (is_hindered duty family here (pid_of n))

-- a process that is here can have a turn: it can by itself, and no child hinders it
abbrev pub has_turn : DutyView → List (Pid × Pid) → List (Pid × Held) → Pid × Held → Bool
has_turn duty family here e = is_able duty e && not (is_hindered duty family here e.0)
