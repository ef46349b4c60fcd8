use Rattle.std.proofs.Common.{◌≡◌, ◌++◌, length}
use Rattle.rv_asm.specs.Program.{words_of_bytes}
use Rattle.rv_asm.proofs.words.push_bytes.Given as goal

abbrev pub invariant-loop-rest : goal.invariant-loop-rest
invariant-loop-rest l = l.out ++ words_of_bytes l.rest ≡ l.fn.out ++ words_of_bytes l.bytes

abbrev pub decreases-loop-rest : goal.decreases-loop-rest
decreases-loop-rest l = length l.rest
