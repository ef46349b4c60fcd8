use Rattle.std.specs.FinMap.{find}
use Rattle.std.specs.Ordering.{nat_cmp}
use Rattle.report_text.specs.Report.{tty_part}
use Rattle.report_text.proofs.Ttys.{parts_more}
use Rattle.report_text.proofs.outcome.put_ttys.Goals as goal

pub loop-tty-preserved : goal.loop-tty-preserved
loop-tty-preserved c = parts_more (λ t. tty_part t (find nat_cmp t c.args.ttys.now.entries)) c.loop-tty.tty _ _ _ c.in_ok-put_tty_of.ensures c.loop-tty.invariant
