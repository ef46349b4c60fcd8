use Rattle.std.proofs.Common.{◌∙◌, ap, sym, subst, Some}
use Rattle.std.specs.Arc.{arc_value}
use Rattle.bus_lock.specs.Seats.{seen}
use Rattle.bus_order.specs.declared.shared.Origin.{Origin}
use Rattle.cluster_threads.specs.Seated.{FindsDue, IsSeatOf, LivesOn, bus_of, made_of}
use Rattle.cluster_threads.proofs.Later.{lives_then}
use Rattle.cluster_threads.proofs.following.live.Goals as goal

pub returns-then-branch-clause-lived : goal.returns-then-branch-clause-lived
returns-then-branch-clause-lived g c =
    let from : Origin = made_of (arc_value c.args.port.now.system.now) c.args.port.now.script.now in
    let so_far = c.loop.invariant in
    let one = c.in_ok-turn_once.ensures in
    let next = subst (λ (o : Origin). LivesOn (bus_of o (seen c.loop.port.seat)) (bus_of o (seen c.turn_once.new.port.seat)) c.loop.cluster c.turn_once.new.cluster) so_far.3 one.lived in
    lives_then (bus_of from (seen c.args.port.now.seat)) (bus_of from (seen c.loop.port.seat)) (bus_of from (seen c.turn_once.new.port.seat)) c.args.cluster.now c.loop.cluster c.turn_once.new.cluster so_far.9.number so_far.10 next

pub loop-preserved : goal.loop-preserved
loop-preserved g c =
    let from : Origin = made_of (arc_value c.args.port.now.system.now) c.args.port.now.script.now in
    let so_far = c.loop.invariant in
    let one = c.in_ok-turn_once.ensures in
    let port = c.turn_once.new.port in
    let new = c.turn_once.new.cluster in
    let next = subst (λ (o : Origin). LivesOn (bus_of o (seen c.loop.port.seat)) (bus_of o (seen port.seat)) c.loop.cluster new) so_far.3 one.lived in (
      tt,
      tt,
      one.lock ∙ so_far.2,
      one.made ∙ so_far.3,
      subst (λ k. IsSeatOf c.args.port.now.lock.now k port.seat) (sym one.same.number) (subst (λ l. IsSeatOf l c.loop.cluster.number port.seat) so_far.2 one.seat),
      one.origin ∙ ap (λ (o : Origin). Some o) so_far.3,
      one.number ∙ sym one.same.number,
      subst (λ (o : Origin). FindsDue o port.seat port.news port.steps.items new) so_far.3 (one.due c.if-branch.false),
      one.empty c.if-branch.false,
      record { system = one.same.system ∙ so_far.9.system; number = one.same.number ∙ so_far.9.number },
      lives_then (bus_of from (seen c.args.port.now.seat)) (bus_of from (seen c.loop.port.seat)) (bus_of from (seen port.seat)) c.args.cluster.now c.loop.cluster new so_far.9.number so_far.10 next,
    )
