use Rattle.std.proofs.Common.{subst, sym}
use Rattle.cluster_turns.specs.Offers.{Adds}
use Rattle.cluster_threads.proofs.Entering.{put_added}
use Rattle.cluster_threads.proofs.locked.put_back.Goals as goal

pub leave-requires-clause-added : goal.leave-requires-clause-added
leave-requires-clause-added c =
    put_added c.args.lock.now c.args.number c.args.seat.now c.requires.added.0 c.from_box.result c.requires.added.1 (subst (Adds c.args.number c.requires.added.0) (sym c.from_box.ensures) c.requires.added.2)
