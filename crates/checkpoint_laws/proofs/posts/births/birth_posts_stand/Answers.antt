use Rattle.checkpoint_laws.proofs.posts.BirthStands.{birth_stands}
use Rattle.checkpoint_laws.proofs.posts.births.birth_posts_stand.Goals as goal

pub returns : goal.returns
returns c = birth_stands
