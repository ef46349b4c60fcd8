use Rattle.text_parts.proofs.Tables.{IsAmongRest}
use Rattle.text_parts.proofs.table.lookup.Given as goal

abbrev pub invariant-loop-row : goal.invariant-loop-row
invariant-loop-row g l = IsAmongRest l.table l.name l.row-index
