use Rattle.std.proofs.Common.{◌<◌, ◌∙◌, sym, length, arith}
use Rattle.cluster_core.proofs.awaiting.Pids.{none_beyond, waiting_next}
use Rattle.cluster_core.proofs.owed.Owed.wait_moved.Goals as goal
use Rattle.cluster_core.proofs.owed.Owed.wait_moved.Goals.{in-Some+in_ok-wait_if_moved, in_default}

pub loop-index-preserved : goal.loop-index-preserved
loop-index-preserved c =
    let placed = c.args.before.now.placed in
    let i = c.loop-index.index in
    let within : i < length placed = omega (arith, c.loop-index-test.true, c.len-index-end.ensures.number) in
    elim c.match-at.branch [
      | in-Some+in_ok-wait_if_moved w ↦ (w.self-is ∙ w.in_ok-wait_if_moved.ensures
          ∙ waiting_next c.args.lost c.args.number placed i w.in-Some.placed c.args.self.now c.loop-index.self within (sym w.in-Some.is ∙ c.at.ensures) c.loop-index.invariant)
      | in_default w ↦ absurd (none_beyond placed i within (sym w.in_default.is ∙ c.at.ensures))
    ]
