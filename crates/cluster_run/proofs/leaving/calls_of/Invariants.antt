use Rattle.std.proofs.Common.{◌≡◌, map, take}
use Rattle.cluster_core.specs.View.{disk_calls}
use Rattle.cluster_run.proofs.leaving.calls_of.Given as goal

abbrev pub invariant-loop-cluster : goal.invariant-loop-cluster
invariant-loop-cluster l = l.calls.items ≡ map disk_calls (take l.cluster-index l.clusters)
