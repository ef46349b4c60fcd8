use Rattle.std.proofs.Common.{[], ap}
use Rattle.proc_state.specs.State.{ProcState, state_of}
use Rattle.roll_forward.specs.Rolling.{with_saved}
use Rattle.roll_forward.proofs.Examples.{can_roll_alike, counted, two_first, two_start}
use Rattle.cluster_tests.proofs.rolls.rolls.child_lost.Goals as goal

pub start_child-requires-clause-runs_out : goal.start_child-requires-clause-runs_out
start_child-requires-clause-runs_out c =
    let child = c.in_ok-child.child in
    rw c.in_ok-rec.ensures
    (can_roll_alike (with_saved (state_of child) [] 0) two_start (counted 1) [] (ap (λ (s : ProcState). with_saved s [] 0) c.in_ok-child.ensures.state) two_first)
