-- The take of a signal, where one is possible.
use Rattle.std.specs.Prelude.{ℕ, Bool, true, false, ◌==◌, Some, unwrap_or}
use Rattle.t32_base.specs.declared.process.End.TheVariants.{Killed}
use Rattle.t32_base.specs.declared.process.Status.TheVariants.{Closing}
use Rattle.t32_base.specs.Small.{SmallState}
use Rattle.rv_cpu.specs.Exec.{set_reg}
use Rattle.proc_state.specs.Mail.{first_signal, is_on, without_first}
use Rattle.proc_state.specs.State.{ProcState}
use Rattle.sys_calls.specs.Small.{with_frame, with_regs, with_status}

-- the signal g comes to a process: without a handler it closes, else the handler runs, and the registers before it are kept
abbrev pub struck : Bool → ℕ → SmallState → SmallState
struck true g s = with_status s (Closing (Killed g))
struck false g s = with_frame (with_regs s (record (set_reg s.regs 10 g) { pc = s.handler })) (Some s.regs)

-- the first signal that waits is taken
abbrev pub taken : ProcState → ProcState
taken p = record p { small = struck ((p.small).handler == 0) (unwrap_or (first_signal p.mail) 0) p.small; mail = without_first (is_on 0) p.mail }
