use Rattle.backup_laws.proofs.Follows.{wait_begins, wait_goes_on, wait_ended}
use Rattle.backup_laws.proofs.awaited.waits_for_backups_follow.Goals as goal

pub returns-clause-moved : goal.returns-clause-moved
returns-clause-moved c = wait_begins

pub returns-clause-goes_on : goal.returns-clause-goes_on
returns-clause-goes_on c = wait_goes_on

pub returns-clause-ended : goal.returns-clause-ended
returns-clause-ended c = wait_ended
