use Rattle.std.proofs.Common.{◌≡◌}
use Rattle.cluster_turns.specs.Lives.{begin_of_life}
use Rattle.cluster_run.proofs.beginning.begin_of_life.Given as goal

-- no later life begins before where the cluster is
abbrev pub invariant-places : goal.invariant-places
invariant-places l = begin_of_life (l.bus).log l.number l.cursor ≡ begin_of_life (l.bus).log l.number l.place

abbrev pub decreases-places : goal.decreases-places
decreases-places l = l.place
