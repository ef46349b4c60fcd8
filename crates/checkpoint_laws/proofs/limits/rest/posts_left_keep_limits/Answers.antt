use Rattle.checkpoint_laws.proofs.limits.RestLimits.{rest_keeps_limits, page_leaves_sync, page_keeps, between_keeps}
use Rattle.checkpoint_laws.proofs.limits.rest.posts_left_keep_limits.Goals as goal

pub returns-clause-posts : goal.returns-clause-posts
returns-clause-posts c = rest_keeps_limits

pub returns-clause-sync : goal.returns-clause-sync
returns-clause-sync c = page_leaves_sync

pub returns-clause-page : goal.returns-clause-page
returns-clause-page c = page_keeps

pub returns-clause-between : goal.returns-clause-between
returns-clause-between c = between_keeps
