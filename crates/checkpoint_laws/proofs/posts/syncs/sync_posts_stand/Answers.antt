use Rattle.checkpoint_laws.proofs.posts.Standing.{sync_stands}
use Rattle.checkpoint_laws.proofs.posts.syncs.sync_posts_stand.Goals as goal

pub returns : goal.returns
returns c = sync_stands
