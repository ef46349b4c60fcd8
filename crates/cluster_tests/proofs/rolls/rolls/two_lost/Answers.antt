use Rattle.std.proofs.Common.{[], ap}
use Rattle.proc_state.specs.State.{ProcState}
use Rattle.roll_forward.specs.Rolling.{started}
use Rattle.roll_forward.proofs.Examples.{can_roll_alike, counted, two_first, two_start}
use Rattle.cluster_tests.proofs.rolls.rolls.two_lost.Goals as goal

pub start-requires-clause-runs_out : goal.start-requires-clause-runs_out
start-requires-clause-runs_out c =
    let two = c.in_ok-two.two in
    rw c.in_ok-rec.ensures
    (can_roll_alike (started two.small two.ram [] 0) two_start (counted 1) [] (ap (λ (s : ProcState). record s { mail = []; next = 0 }) c.in_ok-two.ensures.state) two_first)
