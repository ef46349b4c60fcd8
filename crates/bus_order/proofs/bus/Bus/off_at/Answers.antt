use Rattle.std.proofs.Common.{◌≡◌, sym, ◌∙◌, ap, subst, true}
use Rattle.bus_msg.specs.Places.{lives_in}
use Rattle.cert_sched.specs.Schedule.{placement}
use Rattle.bus_order.specs.View.{IsKept}
use Rattle.bus_order.proofs.OffLaws.{living_not_off}
use Rattle.bus_order.proofs.bus.Bus.off_at.Goals as goal
use Rattle.bus_order.proofs.Lawful.{lawful_stands}

pub returns-then-living-clause-off : goal.returns-then-living-clause-off
returns-then-living-clause-off c =
    let b = c.args.self.now in
    let kept : IsKept b c.self.inside.over c.self.inside.places c.self.inside.cert = subst (λ b. IsKept b c.self.inside.over c.self.inside.places c.self.inside.cert) c.self.view_is c.self.invariant in
    let lives : lives_in (placement b.system b.log) c.args.by ≡ true = sym (ap (λ p. lives_in p c.args.by) kept.placed) ∙ sym c.if-living.ensures.lives in
    sym (living_not_off b.system b.log c.args.by (lawful_stands kept.lawful) lives)
