use Rattle.std.proofs.Common.{arith}
use Rattle.text_parts.proofs.HexTable.{table_value, digit_small}
use Rattle.text_parts.proofs.numbers.hex_digit.Goals as goal

pub returns-clause-value : goal.returns-clause-value
returns-clause-value c = rw c.from.ensures (table_value c.args.byte (omega arith))

pub returns-clause-small : goal.returns-clause-small
returns-clause-small c = rw c.from.ensures (rw (table_value c.args.byte (omega arith)) (digit_small c.args.byte))
