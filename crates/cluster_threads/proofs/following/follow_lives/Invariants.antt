use Rattle.std.proofs.Common.{◌≡◌, Some}
use Rattle.std.specs.Arc.{arc_value}
use Rattle.bus_lock.specs.Seats.{seat_origin, seen}
use Rattle.cluster_turns.specs.Along.{IsMember, IsSame}
use Rattle.cluster_threads.specs.Seated.{IsSeatOf, bus_of, made_of}
use Rattle.cluster_threads.specs.Threads.{HasPast}
use Rattle.cluster_threads.proofs.following.follow_lives.Given as goal

abbrev pub invariant-loop : goal.invariant-loop
invariant-loop g l =
    (goal.iterator-loop g).can_next l.iterator' × (goal.iterator-loop g).is_finite l.iterator'
    × (l.port.lock.now ≡ l.fn.port.lock.now) × (made_of (arc_value l.port.system.now) l.port.script.now ≡ made_of (arc_value l.fn.port.system.now) l.fn.port.script.now)
    × IsSeatOf l.fn.port.lock.now l.fn.followed.cluster.number l.port.seat × (seat_origin l.port.seat ≡ Some (made_of (arc_value l.fn.port.system.now) l.fn.port.script.now))
    × IsSame l.fn.followed.cluster l.followed.cluster
    × IsMember (bus_of (made_of (arc_value l.fn.port.system.now) l.fn.port.script.now) (seen l.port.seat)) l.fn.followed.cluster.number.0 l.followed.cluster
    × HasPast (bus_of (made_of (arc_value l.fn.port.system.now) l.fn.port.script.now) (seen l.port.seat)) l.followed
