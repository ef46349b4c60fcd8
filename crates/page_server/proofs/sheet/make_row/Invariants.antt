use Rattle.std.proofs.Common.{◌≡◌, ◌+◌, ◌-◌, length, map}
use Rattle.page_server.specs.Sheets.{lying}
use Rattle.page_server.proofs.sheet.make_row.Given as goal

abbrev pub invariant-loop-rows : goal.invariant-loop-rows
invariant-loop-rows l = lying (map (λ r. r.items) l.rows.items) ≡ lying (map (λ r. r.items) l.initial.rows.items)

abbrev pub decreases-loop-rows : goal.decreases-loop-rows
decreases-loop-rows l = l.row + 1 - length l.rows.items
