use Rattle.checkpoint_laws.proofs.posts.Standing.{page_stands}
use Rattle.checkpoint_laws.proofs.posts.pages.page_posts_stand.Goals as goal

pub returns : goal.returns
returns c = page_stands
