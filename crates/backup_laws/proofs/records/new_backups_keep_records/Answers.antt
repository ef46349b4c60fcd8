use Rattle.log_laws.proofs.records.Named.{named_in_log}
use Rattle.log_laws.proofs.records.RenewedRecords.{renewed_kept}
use Rattle.backup_laws.proofs.records.new_backups_keep_records.Goals as goal

pub returns-clause-named : goal.returns-clause-named
returns-clause-named c = named_in_log

pub returns-clause-kept : goal.returns-clause-kept
returns-clause-kept c = renewed_kept
