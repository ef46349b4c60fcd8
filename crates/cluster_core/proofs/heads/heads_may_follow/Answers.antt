use Rattle.cluster_core.proofs.working.Heads.{head_follows}
use Rattle.cluster_core.proofs.heads.heads_may_follow.Goals as goal

pub returns : goal.returns
returns c = head_follows
