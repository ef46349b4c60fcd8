use Rattle.checkpoint_laws.proofs.marks.RolledMarks.{rolled_marked, rolled_sent}
use Rattle.checkpoint_laws.proofs.marks.rolled.rolled_steps_keep_marks.Goals as goal

pub returns-clause-marked : goal.returns-clause-marked
returns-clause-marked c = rolled_marked

pub returns-clause-sent : goal.returns-clause-sent
returns-clause-sent c = rolled_sent
