use Rattle.cluster_core.proofs.boot.ReturnFollows.{returned_follows}
use Rattle.cluster_core.proofs.returned.returned_clusters_follow.Goals as goal

pub returns : goal.returns
returns c = returned_follows
