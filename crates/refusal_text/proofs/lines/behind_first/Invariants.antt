use Rattle.std.proofs.Common.{◌≡◌, length}
use Rattle.text_parts.specs.Lines.{lines_of}
use Rattle.refusal_text.specs.Lines.{kept}
use Rattle.refusal_text.proofs.lines.behind_first.Given as goal

abbrev pub invariant-loop-rest : goal.invariant-loop-rest
invariant-loop-rest l = kept (lines_of l.rest) ≡ kept (lines_of l.text)

abbrev pub decreases-loop-rest : goal.decreases-loop-rest
decreases-loop-rest l = length l.rest
