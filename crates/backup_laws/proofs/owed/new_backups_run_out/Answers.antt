use Rattle.backup_laws.proofs.Fewer.{backups_less, backups_most}
use Rattle.backup_laws.proofs.owed.new_backups_run_out.Goals as goal

pub returns-clause-less : goal.returns-clause-less
returns-clause-less c = backups_less

pub returns-clause-most : goal.returns-clause-most
returns-clause-most c = backups_most
