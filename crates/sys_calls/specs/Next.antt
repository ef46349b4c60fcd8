-- The next step of a process.
use Rattle.std.specs.Prelude.{ℕ, zero, suc, Bool, true, false, ◌==◌, List, Option, Some, None, option_map, option_and_then}
use Rattle.t32_base.specs.declared.process.End.{End}
use Rattle.t32_base.specs.declared.process.End.TheVariants.{Trap, Limit}
use Rattle.t32_base.specs.declared.process.Status.{Status}
use Rattle.t32_base.specs.declared.process.Status.TheVariants.{Live, Closing, Ended}
use Rattle.t32_base.specs.declared.letter.Arrived.{Arrived}
use Rattle.t32_base.specs.declared.letter.Body.TheVariants.{EndOf}
use Rattle.t32_base.specs.declared.letter.To.{To}
use Rattle.rv_cpu.specs.Exec.{Executed, Steps, Calls, Traps, exec, exec_marks, reg}
use Rattle.proc_state.specs.State.{ProcState, with_small}
use Rattle.sys_calls.specs.Small.{stepped, spent, with_status, with_regs, lowest_linked, shut_at}
use Rattle.sys_calls.specs.declared.steps.Emission.{Emission}
use Rattle.sys_calls.specs.declared.steps.Emission.TheVariants.{Mail, Exit}
use Rattle.sys_calls.specs.Calls.{Next, Silent, Blocked, Forks, Emits, Over, called, call_of, letter_called, letter_to, marks_called}

-- a closing process sends an end letter on its lowest linked end, which is then shut; without one it sends its exit and has ended
abbrev pub closing_step : Option (ℕ × To) → End → ProcState → Next
closing_step (Some found) end p = Emits (Mail (letter_to p found.0 found.1 EndOf)) (with_small p (shut_at (Some found) p.small))
closing_step None end p = Emits (Exit end) (with_small p (stepped (with_status p.small (Ended end))))

-- what an instruction does to the process p, for which it was spent: a trap closes it
abbrev pub after_exec : Executed → ProcState → Next
after_exec (Steps regs bytes) p = Silent (record p { small = with_regs p.small regs; memory = bytes })
after_exec (Traps code) p = Silent (with_small p (with_status p.small (Closing (Trap code))))
after_exec Calls p = called (call_of (reg (p.small).regs 17)) p

-- a live process with no instruction left closes; any other spends one and executes it
abbrev pub live_step : Bool → ProcState → Next
live_step true p = Silent (with_small p (stepped (with_status p.small (Closing Limit))))
live_step false p = after_exec (exec (p.small).regs p.memory) (with_small p (spent p.small))

abbrev pub step_by : Status → ProcState → Next
step_by (Ended end) p = Over
step_by (Closing end) p = closing_step (lowest_linked (p.small).ends) end p
step_by Live p = live_step ((p.small).left == 0) p

-- the next step of a process
abbrev pub next_step : ProcState → Next
next_step p = step_by (p.small).status p

abbrev pub has_step : Next → Bool
has_step (Silent p) = true
has_step Blocked = false
has_step Forks = true
has_step (Emits e p) = true
has_step Over = false

abbrev pub is_fork : Next → Bool
is_fork (Silent p) = false
is_fork Blocked = false
is_fork Forks = true
is_fork (Emits e p) = false
is_fork Over = false

abbrev pub is_end : Emission → Bool
is_end (Mail letter) = false
is_end (Exit end) = true

-- the step by which the process ends
abbrev pub is_exit : Next → Bool
is_exit (Silent p) = false
is_exit Blocked = false
is_exit Forks = false
is_exit (Emits e p) = is_end e
is_exit Over = false

abbrev pub is_blocked : Next → Bool
is_blocked (Silent p) = false
is_blocked Blocked = true
is_blocked Forks = false
is_blocked (Emits e p) = false
is_blocked Over = false

-- ---- the letter that a step takes

abbrev pub letter_executed : Executed → ProcState → Option Arrived
letter_executed (Steps regs bytes) p = None
letter_executed (Traps code) p = None
letter_executed Calls p = letter_called (call_of (reg (p.small).regs 17)) p

abbrev pub letter_live : Bool → ProcState → Option Arrived
letter_live true p = None
letter_live false p = letter_executed (exec (p.small).regs p.memory) p

abbrev pub letter_by : Status → ProcState → Option Arrived
letter_by (Ended end) p = None
letter_by (Closing end) p = None
letter_by Live p = letter_live ((p.small).left == 0) p

-- the letter that the next step takes out of the mailbox, if any
abbrev pub letter_taken : ProcState → Option Arrived
letter_taken p = letter_by (p.small).status p

-- ---- the marks of the pages that a step changed

-- the marks after a call's read, if the instruction is one
abbrev pub marks_executed : Executed → ProcState → List Bool → List Bool
marks_executed (Steps regs bytes) p dirty = dirty
marks_executed (Traps code) p dirty = dirty
marks_executed Calls p dirty = marks_called (call_of (reg (p.small).regs 17)) p dirty

-- the instruction's store changes the marks, and then its read
abbrev pub marks_live : Bool → ProcState → List Bool → List Bool
marks_live true p dirty = dirty
marks_live false p dirty = marks_executed (exec (p.small).regs p.memory) p (exec_marks (p.small).regs p.memory dirty)

abbrev pub marks_by : Status → ProcState → List Bool → List Bool
marks_by (Ended end) p dirty = dirty
marks_by (Closing end) p dirty = dirty
marks_by Live p dirty = marks_live ((p.small).left == 0) p dirty

-- the marks after the next step: only an instruction that stores, and a read, change them
abbrev pub step_marks : ProcState → List Bool → List Bool
step_marks p dirty = marks_by (p.small).status p dirty

-- ---- silent steps

-- what a step leaves that sends nothing
abbrev pub silent_of : Next → Option ProcState
silent_of (Silent p) = Some p
silent_of Blocked = None
silent_of Forks = None
silent_of (Emits e p) = None
silent_of Over = None

-- n silent steps, one after another
unfoldable pub silently : ℕ → ProcState → Option ProcState
silently zero p = Some p
silently (suc n) p = option_and_then (λ q. silent_of (next_step q)) (silently n p)

-- what a step sends, and the process after it
abbrev pub emission_of : Next → Option (Emission × ProcState)
emission_of (Silent p) = None
emission_of Blocked = None
emission_of Forks = None
emission_of (Emits e p) = Some (e, p)
emission_of Over = None

-- what the last of n steps sends, where all before it are silent
abbrev pub last_emission : ℕ → ProcState → Option (Emission × ProcState)
last_emission zero p = None
last_emission (suc n) p = option_and_then (λ q. emission_of (next_step q)) (silently n p)

-- a process with the marks of its pages
pub record Marked : Type 0 where
  pub state : ProcState
  pub marks : List Bool

-- the next step, where it is silent, with the marks after it
abbrev pub silent_step : Marked → Option Marked
silent_step p = option_map (λ q. record { state = q; marks = step_marks p.state p.marks }) (silent_of (next_step p.state))

-- n silent steps, with the marks after them
unfoldable pub silently_marked : ℕ → Marked → Option Marked
silently_marked zero p = Some p
silently_marked (suc n) p = option_and_then silent_step (silently_marked n p)
