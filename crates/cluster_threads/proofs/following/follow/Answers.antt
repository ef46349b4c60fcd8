use Rattle.std.proofs.Common.{rules, ◌≡◌, Some}
use Rattle.std.specs.Arc.{arc_value}
use Rattle.bus_lock.specs.Seats.{seat_origin, seen}
use Rattle.bus_order.specs.declared.shared.Origin.{Origin}
use Rattle.cluster_threads.specs.Seated.{made_of}
use Rattle.cluster_threads.proofs.Seats.{starts_member, starts_past}
use Rattle.cluster_threads.proofs.following.follow.Goals as goal

pub follow_lives-requires-clause-member : goal.follow_lives-requires-clause-member
follow_lives-requires-clause-member g c = starts_member (made_of (arc_value c.args.system.now) c.args.script.now) (seen c.args.seat) c.args.cluster c.requires.unseen c.requires.ready

pub follow_lives-requires-clause-past : goal.follow_lives-requires-clause-past
follow_lives-requires-clause-past g c = starts_past (made_of (arc_value c.args.system.now) c.args.script.now) (seen c.args.seat) _ c.requires.unseen c.new.ensures.items c.requires.ready

pub returns-in-Err-clause-over : goal.returns-in-Err-clause-over
returns-in-Err-clause-over g c =
    let from : Origin = made_of (arc_value c.args.system.now) c.args.script.now in
    let origin : seat_origin c.stop.new.seat ≡ Some from = search rules in
    c.stop.ensures.over from origin
