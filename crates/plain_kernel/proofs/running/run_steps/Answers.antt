use Rattle.std.proofs.Common.{arith, ap}
use Rattle.plain_kernel.specs.Maps.{total_load}
use Rattle.plain_kernel.proofs.Entries.{still_there, there_after}
use Rattle.plain_kernel.proofs.Turns.{less, more_ran, more_made, stood, stuck_there}
use Rattle.plain_kernel.proofs.running.run_steps.Goals as goal
use Rattle.plain_kernel.proofs.Takers.{no_steps}

pub steps-init : goal.steps-init
steps-init c = record { within = omega arith; made = no_steps _ _; there = c.requires.there; lighter = omega arith }

pub make_step-requires-clause-there : goal.make_step-requires-clause-there
make_step-requires-clause-there c = let r = c.run_at.ensures.runs in there_after _ _ c.args.pid r.was r.now r.changes

pub make_step-requires-clause-room : goal.make_step-requires-clause-room
make_step-requires-clause-room c = omega (arith, less _ _ c.args.pid _ c.run_at.ensures.runs, c.steps.invariant.lighter, c.requires.room)

pub steps-preserved-in-Ok-Went : goal.steps-preserved-in-Ok-Went
steps-preserved-in-Ok-Went c =
    let r = c.run_at.ensures.runs in
    let moves = rw (c.in-Ok-Went.is, c.in-Ok-Went.field-0-is) at c.make_step.ensures in
    record {
      within = omega arith;
      made = more_made c.steps.done _ _ _ _ _ _ c.args.pid _ c.steps.invariant.made r moves.0;
      there = still_there c.args.pid _ _ (moves.0).keys (there_after _ _ c.args.pid r.was r.now r.changes);
      lighter = omega (arith, less _ _ c.args.pid _ r, (moves.0).lighter, c.steps.invariant.lighter);
    }

pub steps-preserved-in-Ok-Sent : goal.steps-preserved-in-Ok-Sent
steps-preserved-in-Ok-Sent c =
    let r = c.run_at.ensures.runs in
    let moves = rw (c.in-Ok-Sent.is, c.in-Ok-Sent.field-0-is) at c.make_step.ensures in
    record {
      within = omega arith;
      made = more_made c.steps.done _ _ _ _ _ _ c.args.pid _ c.steps.invariant.made r moves.0;
      there = still_there c.args.pid _ _ (moves.0).keys (there_after _ _ c.args.pid r.was r.now r.changes);
      lighter = omega (arith, less _ _ c.args.pid _ r, (moves.0).lighter, c.steps.invariant.lighter);
    }

pub steps-preserved : goal.steps-preserved
steps-preserved c =
    let r = c.run_at.ensures.runs in
    record {
      within = omega (arith, c.run_at.ensures.made, c.at_most.ensures);
      made = more_ran c.steps.done _ _ _ _ c.args.pid _ c.steps.invariant.made r;
      there = there_after _ _ c.args.pid r.was r.now r.changes;
      lighter = omega (arith, less _ _ c.args.pid _ r, c.steps.invariant.lighter);
    }

pub returns-in-Ok-Stuck : goal.returns-in-Ok-Stuck
returns-in-Ok-Stuck c =
    let r = c.run_at.ensures.runs in
    let moves = rw (c.in-Ok-Stuck.is, c.in-Ok-Stuck.field-0-is) at c.make_step.ensures in (
      stood _ _ _ _ _ _ _ (more_ran c.steps.done _ _ _ _ c.args.pid _ c.steps.invariant.made r) moves.1 moves.2,
      omega (arith, less _ _ c.args.pid _ r, ap total_load moves.1, c.steps.invariant.lighter),
      omega arith,
      stuck_there _ _ _ _ _ moves.0 moves.1 moves.2,
    )

pub returns-in-Err : goal.returns-in-Err
returns-in-Err c =
    let r = c.run_at.ensures.runs in
    let moves = rw c.in-Err.is at c.make_step.ensures in (
      stood _ _ _ _ _ _ _ (more_ran c.steps.done _ _ _ _ c.args.pid _ c.steps.invariant.made r) moves.0 moves.1,
      omega (arith, less _ _ c.args.pid _ r, ap total_load moves.0, c.steps.invariant.lighter),
      omega arith,
    )
