use Rattle.std.proofs.Common.{◌+◌, refl, arith}
use Rattle.std.proofs.lemmas.List.FromFn.{map-range_with_len_more}
use Rattle.workload.specs.Ring.{root}
use Rattle.workload.proofs.ring.roots.Goals as goal

pub loop-i-preserved : goal.loop-i-preserved
loop-i-preserved c =
    rw (c.in_ok-push.ensures.ok, map-range_with_len_more root 1 c.loop-i.i (c.loop-i.i + 1) (omega arith), c.loop-i.invariant, c.root.ensures) refl
