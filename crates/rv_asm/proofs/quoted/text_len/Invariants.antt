use Rattle.std.proofs.Common.{length}
use Rattle.rv_asm.proofs.QuotedTexts.{Counted}
use Rattle.rv_asm.proofs.quoted.text_len.Given as goal

abbrev pub invariant-loop-byte : goal.invariant-loop-byte
invariant-loop-byte l = Counted l.text l.count l.escaped l.rest

abbrev pub decreases-loop-byte : goal.decreases-loop-byte
decreases-loop-byte l = length l.rest
