use Rattle.std.proofs.Common.{◌≡◌, map, take}
use Rattle.cluster_core.specs.View.{ClusterView}
use Rattle.cluster_run.proofs.leaving.steps_of.Given as goal

abbrev pub invariant-loop-cluster : goal.invariant-loop-cluster
invariant-loop-cluster l = l.steps.items ≡ map (λ (c : ClusterView). c.steps) (take l.cluster-index l.clusters)
