-- Where a process comes by steps that send nothing, when it runs on.
use Rattle.std.specs.Prelude.{◌≡◌, ℕ, ◌+◌, ◌<◌, ◌≤◌, Some}
use Rattle.t32_base.specs.declared.process.Status.TheVariants.{Live}
use Rattle.rv_cpu.specs.declared.Did.TheVariants.{Call}
use Rattle.rv_cpu.specs.Exec.{exec}
use Rattle.rv_cpu.specs.Run.{Stops}
use Rattle.proc_state.specs.declared.process.Process.{Process}
use Rattle.proc_state.specs.State.{state_of}
use Rattle.sys_calls.specs.declared.steps.Step.TheVariants.{Silent, Blocked}
use Rattle.sys_calls.specs.declared.stepping.Passed.{Passed}
use Rattle.sys_calls.specs.declared.stepping.Passed.TheVariants.{Silently, Waiting, Calling, Leaving}
use Rattle.sys_calls.specs.Next.{silently}
use Rattle.sys_calls.specs.Small.{weight}
use Rattle.sys_calls.specs.Steps.{RunsOn, StaysUntaken}

-- silent steps, between which no signal can be taken
pub record Went (old new : Process) : Type 0 where
  pub steps : ℕ
  pub silent : silently steps (state_of old) ≡ Some (state_of new)
  pub untaken : StaysUntaken steps (state_of old)
  pub lighter : weight new.small + steps ≤ weight old.small

-- a live process whose next instruction is a system call
abbrev pub IsAtCall : Process → Type 0
IsAtCall p = (0 < (p.small).left) × ((p.small).status ≡ Live) × Stops (exec (p.small).regs (p.ram).bytes) Call

-- the call is made if it is a read, and else nothing is changed
abbrev pub PassesCall : Passed → Process → Process → Type 0
PassesCall Silently old new = RunsOn Silent old new
PassesCall Waiting old new = RunsOn Blocked old new
PassesCall Calling old new = new ≡ old
PassesCall Leaving old new = new ≡ old

-- silent steps, up to a read that waits, up to another call, or to anywhere
abbrev pub Passes : Passed → Process → Process → Type 0
Passes Silently old new = RunsOn Silent old new
Passes Waiting old new = RunsOn Blocked old new
Passes Calling old new = Went old new × IsAtCall new
Passes Leaving old new = Went old new
