use Rattle.std.proofs.Common.{◌≡◌, ◌++◌, take}
use Rattle.report_text.specs.Report.{pids_report}
use Rattle.report_text.proofs.plain.put_pids.Given as goal

abbrev pub invariant-loop-pid : goal.invariant-loop-pid
invariant-loop-pid l = l.text ≡ l.initial.text ++ pids_report l.plain (take l.pid-index l.pid-items)
