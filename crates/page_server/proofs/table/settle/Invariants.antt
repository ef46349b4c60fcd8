use Rattle.std.proofs.Common.{◌≡◌, fold, take}
use Rattle.page_server.specs.Slots.{settled, change_at}
use Rattle.page_server.proofs.table.settle.Given as goal

abbrev pub invariant-loop-i : goal.invariant-loop-i
invariant-loop-i l = l.rows.items ≡ fold (change_at settled) l.fn.rows.items (take l.i-index l.changed)
