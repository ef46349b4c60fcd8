use Rattle.std.proofs.Common.{sym}
use Rattle.plain_kernel.proofs.Delivery.{lighter_by}
use Rattle.plain_kernel.proofs.processes.step_at.Goals as goal

pub returns : goal.returns
returns c =
    let h = c.get_mut.follows.holds c.step.new.p in
    record {
      was = c.in-Some.process.now;
      now = c.step.new.p;
      changes = record { found = sym c.in-Some.ensures.value; entries = h.0; ordered = c.get_mut.ensures.ordered };
      makes = c.step.ensures.makes;
      touches = c.step.ensures.touches;
      lighter = lighter_by c.step.result c.in-Some.process.now c.step.new.p c.step.ensures.makes;
    }
