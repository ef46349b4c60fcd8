use Rattle.plain_kernel.specs.Kernel.{tty_at}
use Rattle.report_text.specs.Report.{tty_part}
use Rattle.report_text.proofs.Ttys.{parts_more}
use Rattle.report_text.proofs.plain.put_ttys.Goals as goal

pub loop-tty-preserved : goal.loop-tty-preserved
loop-tty-preserved c = parts_more (λ t. tty_part t (tty_at c.args.plain.now t)) c.loop-tty.tty _ _ _ c.in_ok-put_tty_of.ensures c.loop-tty.invariant
