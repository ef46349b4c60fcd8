use Rattle.std.proofs.Common.{ap, length, Vec, Global}
use Rattle.std.specs.Arc.{arc_value}
use Rattle.bus_lock.specs.Seats.{seen}
use Rattle.cluster_threads.specs.declared.followed.Followed.{Followed}
use Rattle.cluster_threads.specs.Seated.{made_of}
use Rattle.cluster_threads.proofs.Seats.{first_done}
use Rattle.cluster_threads.proofs.running.first_of.Goals as goal

pub returns-clause-ended : goal.returns-clause-ended
returns-clause-ended c =
    first_done (made_of (arc_value c.args.system.now) c.args.script.now) (λ (v : Vec Followed Global). v.items) c.with_last.result (seen c.args.first.0) c.new.result.items c.args.first.1 c.with_last.ensures (ap length c.new.ensures.items) c.requires.first.ended
