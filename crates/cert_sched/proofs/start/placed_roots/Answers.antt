use Rattle.std.proofs.Common.{arith, refl, ap, get_or, length}
use Rattle.plain_kernel.proofs.Roots.{root_home, no_root}
use Rattle.cert_sched.proofs.RootPids.{placed_more}
use Rattle.cert_sched.proofs.start.placed_roots.Goals as goal

pub pid_after-pid-requires-clause-home : goal.pid_after-pid-requires-clause-home
pid_after-pid-requires-clause-home c =
    let size = ap length c.as_slice-roots.ensures in
    rw c.as_slice-roots.ensures (root_home c.args.system.now c.loop-number.number no_root _ c.requires.valid (omega (arith, size)) refl)

pub loop-number-preserved : goal.loop-number-preserved
loop-number-preserved c =
    placed_more c.as_slice-roots.result.now c.loop-number.number no_root (get_or c.as_slice-roots.result.now c.loop-number.number no_root) c.pid_after-pid.result c.loop-number.placed.items c.push.new.self.items c.placed_at_start.result
    (omega arith) refl c.pid_after-pid.ensures c.loop-number.invariant c.placed_at_start.ensures c.in_ok-push.ensures.items
