use Rattle.std.proofs.Common.{◌≡◌, map, take, false}
use Rattle.bus_lock.specs.Seats.{IsOf, added, has_entered, name, numbers, own, seen, seat_origin}
use Rattle.bus_lock_tests.specs.Written.{note, written_by}
use Rattle.bus_lock_tests.proofs.worker.append.Given as goal

abbrev pub invariant-loop-value : goal.invariant-loop-value
invariant-loop-value g l =
    IsOf l.lock l.mine × (has_entered l.mine ≡ false)
    × (name l.mine ≡ name l.fn.seat) × (numbers l.mine ≡ numbers l.fn.seat) × (seat_origin l.mine ≡ seat_origin l.fn.seat)
    × (own l.mine ≡ map (note l.me) (take l.value-index l.values))
    × (added l.mine ≡ l.value-index)
    × (written_by l.me (seen l.mine) ≡ written_by l.me (own l.mine))
