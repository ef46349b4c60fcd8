use Rattle.std.proofs.Common.{ap, sym, ◌∙◌, is_some}
use Rattle.std.proofs.lemmas.Bool.{false≢true}
use Rattle.plain_kernel.proofs.Forked.{can_fork_at, split_made, there_to_fork}
use Rattle.plain_kernel.proofs.births.split_at.Goals as goal

pub fork-requires : goal.fork-requires
fork-requires c = can_fork_at c.args.processes.now.entries c.args.pid c.in-Some.process.now (sym c.in-Some.ensures.value) c.requires

pub unreachable-requires : goal.unreachable-requires
unreachable-requires c = false≢true (ap is_some c.in-None.ensures.value ∙ there_to_fork c.args.processes.now.entries c.args.pid c.requires)

pub returns : goal.returns
returns c =
    let h = c.get_mut.follows.holds c.fork.new.p in
    split_made c.fork.result c.args.processes.now.entries _ c.args.pid c.args.child c.in-Some.process.now c.fork.new.p (record { found = sym c.in-Some.ensures.value; entries = h.0; ordered = c.get_mut.ensures.ordered }) c.fork.ensures.child c.fork.ensures.parent c.fork.ensures.rest c.fork.ensures.err
