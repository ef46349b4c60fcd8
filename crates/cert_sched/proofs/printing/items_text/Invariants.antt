use Rattle.std.proofs.Common.{◌≡◌, ◌++◌, length, take}
use Rattle.cert_sched.specs.Printing.{ended, first_line_of, item_lines}
use Rattle.cert_sched.proofs.printing.items_text.Given as goal

abbrev pub invariant-loop-item : goal.invariant-loop-item
invariant-loop-item l = l.text ≡ ended (first_line_of (length l.items)) ++ item_lines (take l.item-index l.items)
