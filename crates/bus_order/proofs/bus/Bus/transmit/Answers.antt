use Rattle.std.proofs.Common.{◌≡◌, sym, subst}
use Rattle.bus_order.specs.View.{after_words}
use Rattle.bus_order.proofs.Admitting.{post_after}
use Rattle.bus_order.proofs.Looking.{IsSettled, settled_after}
use Rattle.bus_order.proofs.bus.Bus.transmit.Goals as goal

pub add-requires-clause-may : goal.add-requires-clause-may
add-requires-clause-may c =
    let same : c.look.new.self ≡ after_words c.args.self.now = c.in_default.ensures.ok in
    post_after c.args.self.now c.look.new.self c.args.cursor same c.requires.seen c.in_ok-admit.ensures.admits.0 c.in_ok-admit.ensures.admits.2 c.args.by c.args.post.now c.requires

pub add-requires-clause-looked : goal.add-requires-clause-looked
add-requires-clause-looked c =
    let same : c.look.new.self ≡ after_words c.args.self.now = c.in_default.ensures.ok in
    subst IsSettled (sym same) (settled_after c.args.self.now) c.in_ok-admit.ensures.admits.0
