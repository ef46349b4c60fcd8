use Rattle.text_parts.proofs.Tables.{AreSameBefore}
use Rattle.text_parts.proofs.table.are_same.Given as goal

abbrev pub invariant-loop-i : goal.invariant-loop-i
invariant-loop-i l = AreSameBefore l.first l.second l.i
