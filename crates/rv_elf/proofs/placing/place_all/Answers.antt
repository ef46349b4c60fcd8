use Rattle.std.proofs.Common.{◌-◌, not, ap, ◌∙◌}
use Rattle.rv_elf.proofs.Sharing.{overlap_from}
use Rattle.rv_elf.proofs.placing.place_all.Goals as goal

pub returns-then-not-place_from-clause-apart : goal.returns-then-not-place_from-clause-apart
returns-then-not-place_from-clause-apart c = overlap_from (c.loop-left.left - 1) c.args.headers.now (c.place_from.ensures.apart ∙ ap not c.if-not-place_from.true)
