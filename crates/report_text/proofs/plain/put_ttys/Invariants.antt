use Rattle.std.proofs.Common.{◌≡◌, ◌++◌}
use Rattle.std.specs.List.{range_with_len}
use Rattle.report_text.specs.Report.{ttys_report}
use Rattle.report_text.proofs.plain.put_ttys.Given as goal

abbrev pub invariant-loop-tty : goal.invariant-loop-tty
invariant-loop-tty l = l.text ≡ l.initial.text ++ ttys_report l.plain (range_with_len 0 l.tty)
