use Rattle.std.specs.Arc.{arc_value}
use Rattle.cluster_run.specs.Started.{AllStarted}
use Rattle.cluster_run.proofs.booting.clusters_at_boot.Given as goal

abbrev pub invariant-loop-number : goal.invariant-loop-number
invariant-loop-number l = AllStarted (arc_value l.system) l.script l.number l.clusters.items
