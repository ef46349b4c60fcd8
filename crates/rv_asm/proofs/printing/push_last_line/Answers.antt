use Rattle.std.proofs.Common.{arith}
use Rattle.rv_asm.proofs.WordLines.{fewer}
use Rattle.rv_asm.proofs.printing.push_last_line.Goals as goal

pub returns-in-len1-up : goal.returns-in-len1-up
returns-in-len1-up c = rw (fewer c.args.words.now (omega arith) c.requires) c.push_line.ensures
