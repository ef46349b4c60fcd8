use Rattle.checkpoint_laws.proofs.marks.SendingMarks.{sending_marked, sending_sent}
use Rattle.checkpoint_laws.proofs.marks.emitted.sent_steps_keep_marks.Goals as goal

pub returns-clause-marked : goal.returns-clause-marked
returns-clause-marked c = sending_marked

pub returns-clause-sent : goal.returns-clause-sent
returns-clause-sent c = sending_sent
