use Rattle.std.proofs.Common.{sym}
use Rattle.plain_kernel.proofs.Ahead.{runs_and_steps}
use Rattle.plain_kernel.proofs.processes.run_if_there.Goals as goal

pub returns-in_ok-step-in-Some : goal.returns-in_ok-step-in-Some
returns-in_ok-step-in-Some c =
    let h = c.get_mut.follows.holds c.run_on.new.p in
    runs_and_steps _ _ c.args.pid c.in-Some.process.now c.run_on.new.p _ (record { found = sym c.in-Some.ensures.value; entries = h.0; ordered = c.get_mut.ensures.ordered }) c.in_ok-step-in-Some.ensures.runs
