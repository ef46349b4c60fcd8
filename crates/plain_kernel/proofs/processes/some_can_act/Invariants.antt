use Rattle.std.proofs.Common.{◌≡◌, ◌||◌}
use Rattle.std.specs.List.{list_any}
use Rattle.proc_state.specs.State.{can_take, state_of}
use Rattle.sys_calls.specs.Next.{next_step, has_step}
use Rattle.plain_kernel.proofs.processes.some_can_act.Given as goal

abbrev pub invariant-loop-process : goal.invariant-loop-process
invariant-loop-process l = list_any (λ e. has_step (next_step (state_of e.1)) || can_take (state_of e.1)) l.process-iterator ≡ list_any (λ e. has_step (next_step (state_of e.1)) || can_take (state_of e.1)) l.processes.entries
