use Rattle.std.proofs.Common.{◌-◌, length}
use Rattle.cluster_run.specs.Stopped.{MovesUnless}
use Rattle.cluster_run.proofs.NextLife.{HasBegun}
use Rattle.cluster_run.proofs.beginning.begin_lives.Given as goal

abbrev pub invariant-lives : goal.invariant-lives
invariant-lives l = record {
  begun : HasBegun (l.bus) (l.initial).cluster l.cluster ((l.initial).past).items (l.past).items;
  moving : MovesUnless (l.bus) l.has_stopped l.cluster;
}

abbrev pub decreases-lives : goal.decreases-lives
decreases-lives l = length (l.bus).log - (l.cluster).cursor
