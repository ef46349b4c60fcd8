use Rattle.std.proofs.Common.{sym, ◌∙◌}
use Rattle.cluster_core.proofs.absorbing.Arriving.{goes_elsewhere}
use Rattle.cluster_core.proofs.absorb.tell.Goals as goal

pub returns-else-goes_to-clause-ok : goal.returns-else-goes_to-clause-ok
returns-else-goes_to-clause-ok c =
    sym (goes_elsewhere c.args.number c.args.entry.now c.in-Mail.at c.in-Mail.letter c.args.here.now.here c.in-Mail.is c.requires.comes (sym c.goes_to.ensures ∙ c.if-goes_to.false))
