use Rattle.checkpoint_laws.proofs.batches.RestStands.{rest_stands, rest_is_new}
use Rattle.checkpoint_laws.proofs.batches.left.posts_left_stand.Goals as goal

pub returns-clause-stand : goal.returns-clause-stand
returns-clause-stand c = rest_stands

pub returns-clause-new : goal.returns-clause-new
returns-clause-new c = rest_is_new
