use Rattle.log_laws.proofs.records.BootLaws.{boot_records_kept, boot_records_rise}
use Rattle.log_laws.proofs.records.lists.records_begin.Goals as goal

pub returns-clause-kept : goal.returns-clause-kept
returns-clause-kept c = boot_records_kept

pub returns-clause-rising : goal.returns-clause-rising
returns-clause-rising c = boot_records_rise
