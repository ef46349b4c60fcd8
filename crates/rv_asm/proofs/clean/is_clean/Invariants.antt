use Rattle.std.proofs.Common.{◌≡◌, take}
use Rattle.rv_asm.specs.Clean.{is_clean}
use Rattle.rv_asm.proofs.clean.is_clean.Given as goal

abbrev pub invariant-loop-byte : goal.invariant-loop-byte
invariant-loop-byte l = l.all ≡ is_clean (take l.byte-index l.text)
