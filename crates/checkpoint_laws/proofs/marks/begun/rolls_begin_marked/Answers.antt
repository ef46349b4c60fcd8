use Rattle.log_laws.proofs.pages.StartPages.{stand_waits}
use Rattle.cert_sched.specs.Legal.{MayStand}
use Rattle.checkpoint_laws.proofs.marks.BegunMarks.{begun_marked, begun_sent}
use Rattle.checkpoint_laws.proofs.marks.begun.rolls_begin_marked.Goals as goal

pub returns-clause-marked : goal.returns-clause-marked
returns-clause-marked c = begun_marked MayStand stand_waits

pub returns-clause-sent : goal.returns-clause-sent
returns-clause-sent c = begun_sent MayStand stand_waits
