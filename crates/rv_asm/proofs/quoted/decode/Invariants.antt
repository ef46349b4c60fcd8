use Rattle.std.proofs.Common.{length}
use Rattle.rv_asm.proofs.QuotedTexts.{Decoded}
use Rattle.rv_asm.proofs.quoted.decode.Given as goal

abbrev pub invariant-loop-byte : goal.invariant-loop-byte
invariant-loop-byte l = Decoded l.text l.bytes.items l.escaped l.rest

abbrev pub decreases-loop-byte : goal.decreases-loop-byte
decreases-loop-byte l = length l.rest
