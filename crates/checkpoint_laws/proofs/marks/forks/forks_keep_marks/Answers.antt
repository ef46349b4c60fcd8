use Rattle.checkpoint_laws.proofs.marks.ForkMarks.{forked_marked, forked_sent}
use Rattle.checkpoint_laws.proofs.marks.forks.forks_keep_marks.Goals as goal

pub returns-clause-marked : goal.returns-clause-marked
returns-clause-marked c = forked_marked

pub returns-clause-sent : goal.returns-clause-sent
returns-clause-sent c = forked_sent
