use Rattle.backup_laws.proofs.RenewedMarks.{fresh_beside, fresh_marks, standing_beside}
use Rattle.backup_laws.proofs.renewals.new_backups_leave_marks.Goals as goal

pub returns-clause-marked : goal.returns-clause-marked
returns-clause-marked c = fresh_marks

pub returns-clause-others : goal.returns-clause-others
returns-clause-others c = fresh_beside

pub returns-clause-standing : goal.returns-clause-standing
returns-clause-standing c = standing_beside
