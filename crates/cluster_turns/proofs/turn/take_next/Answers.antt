use Rattle.std.proofs.Common.{◌<◌, subst, sym}
use Rattle.bus_order.specs.Log.{open_length}
use Rattle.cluster_turns.proofs.turn.take_next.Goals as goal

pub shown-requires-clause-within : goal.shown-requires-clause-within
shown-requires-clause-within g c =
    let b = g.P.Port.bus c.args.port.now in
    subst (λ n. n < open_length b.log) (sym c.cursor.ensures) c.requires.ready.open_there
