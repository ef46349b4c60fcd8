use Rattle.std.proofs.Common.{◌+◌, ◌∙◌, ap}
use Rattle.bus_msg.specs.PlacedAfter.{placed_after, what}
use Rattle.log_audit.specs.Front.{FrontState}
use Rattle.log_audit.proofs.Fronts.{front_after}
use Rattle.log_audit.proofs.front.Front.take.Goals as goal

pub returns : goal.returns
returns c =
    front_after c.args.self.now _ c.args.entry.now (c.in_ok-absorb.ensures.ok ∙ ap (λ (f : FrontState). placed_after f.places (what c.args.entry.now)) c.self.view_is) c.ends-over.ensures
    (ap (λ (f : FrontState). f.length + 1) c.self.view_is)
