use Rattle.std.proofs.Common.{◌≡◌, drop}
use Rattle.text_parts.specs.Table.{end_after, end_of}
use Rattle.text_parts.proofs.names.end_of.Given as goal

abbrev pub invariant-loop-byte : goal.invariant-loop-byte
invariant-loop-byte l = end_after l.end (drop l.byte-index l.name) ≡ end_of l.name
