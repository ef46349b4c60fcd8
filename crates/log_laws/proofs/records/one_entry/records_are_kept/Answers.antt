use Rattle.log_laws.proofs.records.KeptLaws.{records_kept}
use Rattle.log_laws.proofs.records.one_entry.records_are_kept.Goals as goal

pub returns : goal.returns
returns c = records_kept
