use Rattle.std.proofs.Common.{◌≡◌, [], Some}
use Rattle.std.specs.Arc.{arc_value}
use Rattle.bus_lock.specs.Seats.{seat_origin, seen}
use Rattle.cluster_turns.specs.Along.{IsSame}
use Rattle.cluster_threads.specs.Seated.{FindsDue, IsSeatOf, LivesOn, bus_of, made_of}
use Rattle.cluster_threads.proofs.following.live.Given as goal

abbrev pub invariant-loop : goal.invariant-loop
invariant-loop g l =
    (goal.iterator-loop g).can_next l.iterator' × (goal.iterator-loop g).is_finite l.iterator'
    × (l.port.lock.now ≡ l.fn.port.lock.now) × (made_of (arc_value l.port.system.now) l.port.script.now ≡ made_of (arc_value l.fn.port.system.now) l.fn.port.script.now)
    × IsSeatOf l.fn.port.lock.now l.cluster.number l.port.seat × (seat_origin l.port.seat ≡ Some (made_of (arc_value l.fn.port.system.now) l.fn.port.script.now)) × (l.port.news.number ≡ l.cluster.number)
    × FindsDue (made_of (arc_value l.fn.port.system.now) l.fn.port.script.now) l.port.seat l.port.news l.port.steps.items l.cluster × (l.cluster.queue ≡ []) × IsSame l.fn.cluster l.cluster
    × LivesOn (bus_of (made_of (arc_value l.fn.port.system.now) l.fn.port.script.now) (seen l.fn.port.seat)) (bus_of (made_of (arc_value l.fn.port.system.now) l.fn.port.script.now) (seen l.port.seat)) l.fn.cluster l.cluster
