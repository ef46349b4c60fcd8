use Rattle.std.proofs.Common.{arith}
use Rattle.text_parts.proofs.HexDigits.{by_bytes}
use Rattle.text_parts.proofs.words.word_field.Goals as goal

pub returns : goal.returns
returns c = rw (c.digits-a.ensures, c.digits-b.ensures, c.digits-c.ensures, c.digits-d.ensures) (by_bytes c.args.word (omega arith))
