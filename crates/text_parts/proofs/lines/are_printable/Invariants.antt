use Rattle.std.proofs.Common.{◌≡◌, take}
use Rattle.text_parts.specs.Lines.{are_printable}
use Rattle.text_parts.proofs.lines.are_printable.Given as goal

abbrev pub invariant-loop-byte : goal.invariant-loop-byte
invariant-loop-byte l = l.all ≡ are_printable (take l.byte-index l.line)
