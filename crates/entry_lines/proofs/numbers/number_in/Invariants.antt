use Rattle.std.proofs.Common.{◌≡◌, drop}
use Rattle.entry_lines.specs.Guess.{number_after}
use Rattle.entry_lines.proofs.numbers.number_in.Given as goal

abbrev pub invariant-loop-byte : goal.invariant-loop-byte
invariant-loop-byte l = number_after l.value (drop l.byte-index l.word) ≡ number_after 0 l.word
