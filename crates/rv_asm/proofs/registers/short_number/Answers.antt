use Rattle.std.proofs.Common.{arith}
use Rattle.rv_asm.proofs.NumberedNames.{one_of, two_of}
use Rattle.rv_asm.proofs.registers.short_number.Goals as goal

pub returns-in-len1 : goal.returns-in-len1
returns-in-len1 c = one_of c.args.digits.now c.in-len1.len_at_least c.in-len1.len_below (omega arith) (omega arith)

pub returns-in-len2 : goal.returns-in-len2
returns-in-len2 c = two_of c.args.digits.now c.in-len2.len_at_least c.in-len2.len_below (omega arith) (omega arith) (omega arith) (omega arith)
