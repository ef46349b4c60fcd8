use Rattle.std.proofs.Common.{◌≡◌, fold, take}
use Rattle.page_server.specs.Slots.{restored, change_at}
use Rattle.page_server.proofs.table.restore.Given as goal

abbrev pub invariant-loop-i : goal.invariant-loop-i
invariant-loop-i l = l.rows.items ≡ fold (change_at restored) l.fn.rows.items (take l.i-index l.changed)
