use Rattle.std.proofs.Common.{◌≡◌, ◌++◌, drop}
use Rattle.entry_lines.specs.Guess.{numbers_after}
use Rattle.entry_lines.proofs.numbers.numbers.Given as goal

abbrev pub invariant-loop-byte : goal.invariant-loop-byte
invariant-loop-byte l = l.found ++ numbers_after l.value (drop l.byte-index l.text) ≡ numbers_after 0 l.text
