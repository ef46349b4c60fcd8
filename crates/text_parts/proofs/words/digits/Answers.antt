use Rattle.std.proofs.Common.{arith}
use Rattle.text_parts.proofs.HexDigits.{pair_of}
use Rattle.text_parts.proofs.words.digits.Goals as goal

pub returns : goal.returns
returns c = rw c.from.ensures (pair_of c.args.byte (omega arith))
