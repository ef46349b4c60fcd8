use Rattle.std.proofs.Common.{◌≡◌, length}
use Rattle.std.specs.List.{slice_get}
use Rattle.text_parts.specs.Lines.{lines_of}
use Rattle.refusal_text.specs.Lines.{kept}
use Rattle.refusal_text.proofs.lines.kept_line.Given as goal

abbrev pub invariant-loop-rest : goal.invariant-loop-rest
invariant-loop-rest l = slice_get (kept (lines_of l.rest)) l.left ≡ slice_get (kept (lines_of l.text)) l.count

abbrev pub decreases-loop-rest : goal.decreases-loop-rest
decreases-loop-rest l = length l.rest
