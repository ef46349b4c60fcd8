use Rattle.std.proofs.Common.{sym}
use Rattle.plain_kernel.proofs.Takers.{taken_at}
use Rattle.plain_kernel.proofs.signals.take_at.Goals as goal

pub returns-in-Some : goal.returns-in-Some
returns-in-Some c = taken_at c.take_where.result c.args.processes.now.entries _ c.args.pid c.in-Some.process.now c.take_where.new.process (record { found = sym c.in-Some.ensures.value; entries = (c.get_mut.follows.holds c.take_where.new.process).0; ordered = c.get_mut.ensures.ordered }) c.take_where.ensures
