use Rattle.std.proofs.Common.{arith}
use Rattle.rv_asm.proofs.rules.defined_before.Goals as goal

pub is_again-requires : goal.is_again-requires
is_again-requires c = let own = rw c.in-Some.is at c.requires in own 0 (c.in-Some.name.now, record { line = c.args.number; words = c.args.words }) (omega arith)
