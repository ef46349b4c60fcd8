use Rattle.std.proofs.Common.{arith, refl, ap, get_or, length}
use Rattle.plain_kernel.proofs.Roots.{booted_more, load_more, can_boot, light, no_root}
use Rattle.plain_kernel.specs.Maps.{CanBoot}
use Rattle.plain_kernel.proofs.booting.roots_by_pid.Goals as goal

pub of_root-requires : goal.of_root-requires
of_root-requires c =
    let size = ap length c.as_slice-roots.ensures in
    rw c.as_slice-roots.ensures (can_boot c.args.system.now c.loop-number.number no_root (get_or c.args.system.now.roots c.loop-number.number no_root) c.requires (omega (arith, size)) refl)

pub loop-number-preserved : goal.loop-number-preserved
loop-number-preserved c =
    let size = ap length c.as_slice-roots.ensures in
    let root = get_or c.as_slice-roots.result.now c.loop-number.number no_root in
    let boots : CanBoot c.args.system.now root = rw c.as_slice-roots.ensures (can_boot c.args.system.now c.loop-number.number no_root (get_or c.args.system.now.roots c.loop-number.number no_root) c.requires (omega (arith, size)) refl) in
    record {
      states = booted_more c.args.system.now c.as_slice-roots.result.now c.loop-number.number no_root root c.of_root.result _ _ c.pid_after-pid.result (omega arith) refl c.loop-number.invariant.states c.in_ok-insert.ensures.entries c.pid_after-pid.ensures c.of_root.ensures.state;
      load = omega (arith, load_more _ _ _ c.of_root.result 6402176 c.insert.ensures.was_ordered c.in_ok-insert.ensures.entries (light c.of_root.result root.limit root.births c.of_root.ensures.load boots.limit boots.births), c.loop-number.invariant.load);
    }
