use Rattle.cluster_run.proofs.NextLife.{comes_back_at}
use Rattle.cluster_run.proofs.beginning.come_back.Goals as goal

pub returns : goal.returns
returns c = record {
  back = comes_back_at c.args.bus.now c.requires.sound c.requires.goes_on c.args.cluster.now c.in_ok-fresh.fresh c.in_ok-back.back.known.places c.in_ok-back.back.known.family c.in_ok-back.back.cursor c.requires.stopped c.requires.lost c.requires.has
      c.returned_clusters_follow.ensures c.in_ok-back.ensures.knows c.in_ok-fresh.ensures;
}
