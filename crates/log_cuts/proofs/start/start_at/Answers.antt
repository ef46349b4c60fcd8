use Rattle.std.proofs.Common.{◌∙◌}
use Rattle.proc_state.specs.State.{state_of}
use Rattle.log_cuts.proofs.Starting.{begins_at}
use Rattle.log_cuts.proofs.start.start_at.Goals as goal

pub returns-clause-begins : goal.returns-clause-begins
returns-clause-begins c =
    begins_at (state_of c.args.process.now) (record { stated = c.args.stated; waiting = c.from_vec.result; came = c.next.result }) (c.from_vec.ensures ∙ c.in_ok-numbers_waiting.ensures, c.next.ensures)
