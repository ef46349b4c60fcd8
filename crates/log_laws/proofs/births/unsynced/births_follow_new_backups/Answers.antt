use Rattle.log_laws.proofs.births.NewBackups.{renewed_goes, handed_on_stay, returns_stay}
use Rattle.log_laws.proofs.births.unsynced.births_follow_new_backups.Goals as goal

pub returns-clause-fresh : goal.returns-clause-fresh
returns-clause-fresh c = renewed_goes

pub returns-clause-standing : goal.returns-clause-standing
returns-clause-standing c = handed_on_stay

pub returns-clause-back : goal.returns-clause-back
returns-clause-back c = returns_stay
