-- A silent step of a process, as the call `step` makes it.
use Rattle.std.specs.Prelude.{Ok}
use Rattle.proc_state.specs.declared.process.Process.{Process}
use Rattle.proc_state.specs.State.{state_of}
use Rattle.sys_calls.specs.declared.steps.Step.TheVariants.{Silent}
use Rattle.sys_calls.specs.Next.{letter_taken, next_step, step_marks}
use Rattle.sys_calls.specs.Steps.{Makes, Marks, Took, taken_by}

-- It is the next step, it marks the pages that it writes, and a letter that it takes is put last among those read.
pub record StepsSilently (old new : Process) : Type 0 where
  pub makes : Makes (next_step (state_of old)) (Ok Silent) (state_of old) (state_of new)
  pub marks : Marks (Ok Silent) (step_marks (state_of old) (old.ram).dirty) (old.ram).dirty (new.ram).dirty
  pub took : Took (taken_by (Ok Silent) (letter_taken (state_of old))) old new
