use Rattle.std.proofs.Common.{arith, refl, get_or}
use Rattle.plain_kernel.proofs.Roots.{no_root}
use Rattle.report_text.proofs.RootEnds.{ends_more}
use Rattle.report_text.proofs.outcome.ends_of.Goals as goal

pub loop-number-preserved : goal.loop-number-preserved
loop-number-preserved c =
    ends_more c.as_slice-roots.result.now c.loop-number.number no_root (get_or c.as_slice-roots.result.now c.loop-number.number no_root) c.pid_after-pid.result _ _
    (omega arith) refl c.pid_after-pid.ensures c.loop-number.invariant c.in_ok-insert.ensures.entries
