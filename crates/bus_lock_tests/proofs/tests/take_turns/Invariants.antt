use Rattle.std.proofs.Common.{◌≡◌, false}
use Rattle.bus_lock.specs.Seats.{IsOf, has_entered, name}
use Rattle.bus_lock_tests.proofs.tests.take_turns.Given as goal

abbrev pub invariant-loop-round : goal.invariant-loop-round
invariant-loop-round g l = IsOf l.lock l.mine × (has_entered l.mine ≡ false) × (name l.mine ≡ l.me)
