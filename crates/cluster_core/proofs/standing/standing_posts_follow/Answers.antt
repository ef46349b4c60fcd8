use Rattle.cluster_core.proofs.handing.Posts.{next_can, next_follows, next_may}
use Rattle.cluster_core.proofs.standing.standing_posts_follow.Goals as goal

pub returns-clause-can : goal.returns-clause-can
returns-clause-can c = next_can

pub returns-clause-may : goal.returns-clause-may
returns-clause-may c = next_may

pub returns-clause-follows : goal.returns-clause-follows
returns-clause-follows c = next_follows
