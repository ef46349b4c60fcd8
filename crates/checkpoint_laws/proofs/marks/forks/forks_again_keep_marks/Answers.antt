use Rattle.checkpoint_laws.proofs.marks.ForkMarks.{again_rolls, again_sent}
use Rattle.checkpoint_laws.proofs.marks.forks.forks_again_keep_marks.Goals as goal

pub returns-clause-rolls : goal.returns-clause-rolls
returns-clause-rolls c = again_rolls

pub returns-clause-sent : goal.returns-clause-sent
returns-clause-sent c = again_sent
