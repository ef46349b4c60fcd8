use Rattle.std.proofs.Common.{◌≡◌, ◌∙◌, ap, subst, Some}
use Rattle.std.specs.Arc.{arc_value}
use Rattle.t32_base.specs.declared.process.ClusterNo.{ClusterNo}
use Rattle.bus_lock.specs.Seats.{seen}
use Rattle.bus_order.specs.declared.shared.Origin.{Origin}
use Rattle.cluster_core.specs.View.{ClusterView}
use Rattle.cluster_turns.specs.Along.{IsMember}
use Rattle.cluster_threads.specs.Seated.{IsSeatOf, LivesOn, bus_of, made_of}
use Rattle.cluster_threads.specs.Threads.{HasPast}
use Rattle.cluster_threads.proofs.Later.{past_lived}
use Rattle.cluster_threads.proofs.following.follow_lives.Goals as goal

-- it lived on in one life, so the lives before that are those that were
pub loop-preserved : goal.loop-preserved
loop-preserved g c =
    let from : Origin = made_of (arc_value c.args.port.now.system.now) c.args.port.now.script.now in
    let so_far = c.loop.invariant in
    let entered = c.in_ok-enter.ensures in
    let one = c.in_ok-live-in-Lives.ensures in
    let k = c.args.followed.now.cluster.number in
    let f = c.enter.new.followed in
    let v : ClusterView = f.cluster in
    let port = c.live.new.port in
    let new : ClusterView = c.live.new.cluster in
    let mid = seen c.enter.new.seat in
    let log = seen port.seat in
    let number : v.number ≡ k = entered.same.number ∙ so_far.6.number in
    let before = subst (λ (o : Origin). IsMember (bus_of o mid) c.loop.followed.cluster.number.0 v) so_far.3 entered.member in
    let past = subst (λ (o : Origin). HasPast (bus_of o mid) f) so_far.3 entered.past in
    let lived = subst (λ (o : Origin). LivesOn (bus_of o mid) (bus_of o log) v new) so_far.3 one.lived in
    let member = subst (λ (o : Origin). IsMember (bus_of o log) v.number.0 new) so_far.3 one.member in (
      tt,
      tt,
      one.lock ∙ so_far.2,
      one.made ∙ so_far.3,
      subst (λ (j : ClusterNo). IsSeatOf c.args.port.now.lock.now j port.seat) number (subst (λ l. IsSeatOf l v.number port.seat) so_far.2 one.seat),
      one.origin ∙ ap (λ (o : Origin). Some o) so_far.3,
      record { system = one.same.system ∙ entered.same.system ∙ so_far.6.system; number = one.same.number ∙ number },
      subst (λ (j : ClusterNo). IsMember (bus_of from log) j.0 new) number member,
      past_lived (bus_of from mid) (bus_of from log) f new one.same.number before.along member.along lived past,
    )
