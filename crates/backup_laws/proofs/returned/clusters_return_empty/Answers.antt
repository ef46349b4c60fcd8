use Rattle.backup_laws.proofs.ReturnedEmpty.{backups_live, returned_home, returned_records}
use Rattle.backup_laws.proofs.returned.clusters_return_empty.Goals as goal

pub returns-clause-backups : goal.returns-clause-backups
returns-clause-backups c = backups_live

pub returns-clause-home : goal.returns-clause-home
returns-clause-home c = returned_home

pub returns-clause-records : goal.returns-clause-records
returns-clause-records c = returned_records
