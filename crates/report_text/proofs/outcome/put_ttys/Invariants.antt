use Rattle.std.proofs.Common.{◌≡◌, ◌++◌}
use Rattle.std.specs.FinMap.{find}
use Rattle.std.specs.List.{flat_map, range_with_len}
use Rattle.std.specs.Ordering.{nat_cmp}
use Rattle.report_text.specs.Report.{tty_part}
use Rattle.report_text.proofs.outcome.put_ttys.Given as goal

abbrev pub invariant-loop-tty : goal.invariant-loop-tty
invariant-loop-tty l = l.text ≡ l.initial.text ++ flat_map (λ t. tty_part t (find nat_cmp t l.ttys.entries)) (range_with_len 0 l.tty)
