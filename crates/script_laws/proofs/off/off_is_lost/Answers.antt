use Rattle.script_laws.proofs.OffLosses.{off_is_its_loss, not_off_not_lost, lives_unless_lost, silent_once_lost}
use Rattle.script_laws.proofs.off.off_is_lost.Goals as goal

pub returns-clause-off : goal.returns-clause-off
returns-clause-off c = off_is_its_loss

pub returns-clause-not_off : goal.returns-clause-not_off
returns-clause-not_off c = not_off_not_lost

pub returns-clause-lives : goal.returns-clause-lives
returns-clause-lives c = lives_unless_lost

pub returns-clause-silent : goal.returns-clause-silent
returns-clause-silent c = silent_once_lost
