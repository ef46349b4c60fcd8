use Rattle.std.proofs.Common.{◌≤◌, ◌-◌}
use Rattle.cluster_turns.specs.Along.{TakesIn}
use Rattle.cluster_turns.proofs.turn.take_unnamed.Given as goal

abbrev pub invariant-entries : goal.invariant-entries
invariant-entries g l = record {
  taken : TakesIn (g.P.Port.bus l.port) l.fn.cluster l.cluster;
  upto : l.cluster.cursor ≤ l.upto;
}

abbrev pub decreases-entries : goal.decreases-entries
decreases-entries g l = l.upto - l.cluster.cursor
