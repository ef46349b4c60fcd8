use Rattle.std.proofs.Common.{◌≡◌, map}
use Rattle.std.specs.List.{range_with_len}
use Rattle.workload.specs.Ring.{chan}
use Rattle.workload.proofs.ring.chans.Given as goal

abbrev pub invariant-loop-i : goal.invariant-loop-i
invariant-loop-i l = l.chans ≡ map chan (range_with_len 1 l.i)
