use Rattle.checkpoint_laws.proofs.batches.EntryBetween.{pages_stay}
use Rattle.checkpoint_laws.proofs.batches.PageSent.{pages_sent}
use Rattle.backup_laws.proofs.renewals.renewals_go_on.Goals as goal

pub returns-clause-sent : goal.returns-clause-sent
returns-clause-sent c = pages_sent

pub returns-clause-between : goal.returns-clause-between
returns-clause-between c = pages_stay
