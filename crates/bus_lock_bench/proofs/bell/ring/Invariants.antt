use Rattle.std.proofs.Common.{◌≡◌, false}
use Rattle.bus_lock.specs.Seats.{IsOf, has_entered}
use Rattle.bus_lock_bench.proofs.bell.ring.Given as goal

abbrev pub invariant-loop : goal.invariant-loop
invariant-loop g l = IsOf l.lock l.mine × (has_entered l.mine ≡ false)
