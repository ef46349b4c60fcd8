use Rattle.std.proofs.Common.{◌≡◌, ◌∙◌, refl, ap, sym, subst, Some}
use Rattle.std.specs.Arc.{arc_value}
use Rattle.sys_text.specs.declared.system.System.{System}
use Rattle.sys_text.specs.Valid.{is_system}
use Rattle.bus_lock.specs.Seats.{seat_origin, seen}
use Rattle.bus_order.specs.declared.shared.Origin.{Origin}
use Rattle.bus_order.specs.View.{BusView}
use Rattle.cluster_core.specs.View.{ClusterView}
use Rattle.cluster_turns.specs.Along.{IsMember}
use Rattle.cluster_turns.specs.Offers.{IsLonger}
use Rattle.cluster_turns.proofs.Answering.{same_from}
use Rattle.cluster_turns.proofs.Growing.{longer_grown}
use Rattle.cluster_turns.proofs.Owning.{where_ok, where_each}
use Rattle.cluster_threads.specs.Seated.{StandsAt, bus_of, made_of, origin_of}
use Rattle.cluster_threads.specs.Threads.{HasPast}
use Rattle.cluster_threads.proofs.Entering.{sound_by_log}
use Rattle.cluster_threads.proofs.Later.{at_seen, member_later, past_later, seen_longer, stands_seen, three_system, three_within}
use Rattle.cluster_threads.proofs.following.enter.Goals as goal

pub take_sound-bus-requires-clause-from : goal.take_sound-bus-requires-clause-from
take_sound-bus-requires-clause-from g c =
    let v = c.args.followed.now.cluster in
    let from : Origin = made_of (arc_value c.args.system.now) c.args.script.now in
    let system : v.system ≡ arc_value c.args.system.now = three_system (bus_of from (seen c.args.seat.now)) v c.requires.member.along in
    record { script = c.args.script.now; from = c.requires.origin ∙ ap (λ (s : System). Some (made_of s c.args.script.now)) (sym system) }

pub take_sound-bus-requires-clause-valid : goal.take_sound-bus-requires-clause-valid
take_sound-bus-requires-clause-valid g c =
    let v = c.args.followed.now.cluster in
    let from : Origin = made_of (arc_value c.args.system.now) c.args.script.now in
    let system : v.system ≡ arc_value c.args.system.now = three_system (bus_of from (seen c.args.seat.now)) v c.requires.member.along in
    ap is_system system ∙ c.requires.valid

pub stand-standing-requires-clause-member : goal.stand-standing-requires-clause-member
stand-standing-requires-clause-member g c =
    let v = c.args.followed.now.cluster in
    let b : BusView = c.take_sound-bus.result.value in
    let from : Origin = made_of (arc_value c.args.system.now) c.args.script.now in
    let was : BusView = bus_of from (seen c.args.seat.now) in
    let came : origin_of b ≡ from = same_from (origin_of b) from (seat_origin c.args.seat.now) c.take_sound-bus.ensures.origin c.requires.origin in
    let longer : IsLonger v.number was b = (ap (λ (o : Origin). o.system) came, ap (λ (o : Origin). o.script) came, c.take_sound-bus.ensures.longer) in
    subst (λ (x : BusView). IsMember x v.number.0 v) (sym c.deref.ensures) (member_later was b v.number.0 v c.take_sound-bus.ensures.sound longer c.requires.member)

pub stand-standing-requires-clause-past : goal.stand-standing-requires-clause-past
stand-standing-requires-clause-past g c =
    let f = c.args.followed.now in
    let v = f.cluster in
    let b : BusView = c.take_sound-bus.result.value in
    let from : Origin = made_of (arc_value c.args.system.now) c.args.script.now in
    let was : BusView = bus_of from (seen c.args.seat.now) in
    let came : origin_of b ≡ from = same_from (origin_of b) from (seat_origin c.args.seat.now) c.take_sound-bus.ensures.origin c.requires.origin in
    let longer : IsLonger v.number was b = (ap (λ (o : Origin). o.system) came, ap (λ (o : Origin). o.script) came, c.take_sound-bus.ensures.longer) in
    subst (λ (x : BusView). HasPast x f) (sym c.deref.ensures) (past_later was b f (longer_grown v.number was b longer) (three_within was v c.requires.member.along) c.requires.past)

pub returns-clause-member : goal.returns-clause-member
returns-clause-member g c =
    let n = c.args.followed.now.cluster.number.0 in
    let new : ClusterView = c.stand-standing.new.followed.cluster in
    let b : BusView = c.take_sound-bus.result.value in
    let from : Origin = made_of (arc_value c.args.system.now) c.args.script.now in
    let log = seen c.give.new.seat in
    let came : origin_of b ≡ from = same_from (origin_of b) from (seat_origin c.args.seat.now) c.take_sound-bus.ensures.origin c.requires.origin in
    let sound = sound_by_log b b.log c.take_sound-bus.ensures.sound refl in
    where_ok c.stand-standing.result (IsMember c.deref.result.now n new) (IsMember (bus_of from log) n new)
    (λ member. at_seen (λ (x : BusView). IsMember x n new) b from log came c.give.ensures.whole
    (member_later b (bus_of (origin_of b) b.log) n new sound (seen_longer new.number b) (subst (λ (x : BusView). IsMember x n new) c.deref.ensures member)))
    c.stand-standing.ensures.member

pub returns-clause-stands : goal.returns-clause-stands
returns-clause-stands g c =
    let new : ClusterView = c.stand-standing.new.followed.cluster in
    let b : BusView = c.take_sound-bus.result.value in
    let from : Origin = made_of (arc_value c.args.system.now) c.args.script.now in
    let log = seen c.give.new.seat in
    let came : origin_of b ≡ from = same_from (origin_of b) from (seat_origin c.args.seat.now) c.take_sound-bus.ensures.origin c.requires.origin in
    let sound = sound_by_log b b.log c.take_sound-bus.ensures.sound refl in
    where_each c.stand-standing.result (λ s. StandsAt c.deref.result.now s new) (λ s. StandsAt (bus_of from log) s new)
    (λ s stands. at_seen (λ (x : BusView). StandsAt x s new) b from log came c.give.ensures.whole (stands_seen b s new sound (subst (λ (x : BusView). StandsAt x s new) c.deref.ensures stands)))
    c.stand-standing.ensures.stands
