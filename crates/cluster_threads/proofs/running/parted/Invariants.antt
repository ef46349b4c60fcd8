use Rattle.std.proofs.Common.{◌≡◌, ◌++◌}
use Rattle.std.specs.Vec.Iter.{into_iter_items}
use Rattle.cluster_threads.specs.Threads.{clusters_of, past_of}
use Rattle.cluster_threads.proofs.running.parted.Given as goal

abbrev pub invariant-loop-one : goal.invariant-loop-one
invariant-loop-one l = record {
  clusters : l.clusters.items ++ clusters_of (into_iter_items l.one-iterator) ≡ clusters_of l.fn.followed.items;
  past : l.past.items ++ past_of (into_iter_items l.one-iterator) ≡ past_of l.fn.followed.items;
}
