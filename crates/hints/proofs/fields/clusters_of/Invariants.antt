use Rattle.std.proofs.Common.{◌≡◌, length}
use Rattle.text_parts.specs.Lines.{lines_of}
use Rattle.hints.specs.Fields.{clusters_of}
use Rattle.hints.proofs.fields.clusters_of.Given as goal

abbrev pub invariant-loop-rest : goal.invariant-loop-rest
invariant-loop-rest l = clusters_of (lines_of l.rest) ≡ clusters_of (lines_of l.text)

abbrev pub decreases-loop-rest : goal.decreases-loop-rest
decreases-loop-rest l = length l.rest
