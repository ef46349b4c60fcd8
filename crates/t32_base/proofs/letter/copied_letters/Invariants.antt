use Rattle.std.proofs.Common.{◌≡◌, take}
use Rattle.t32_base.proofs.letter.copied_letters.Given as goal

abbrev pub invariant-loop-letter : goal.invariant-loop-letter
invariant-loop-letter l = l.copies ≡ take l.letter-index l.letters
