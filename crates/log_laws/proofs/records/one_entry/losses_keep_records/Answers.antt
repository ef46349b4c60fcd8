use Rattle.log_laws.proofs.records.LossLaws.{loss_kept}
use Rattle.log_laws.proofs.records.one_entry.losses_keep_records.Goals as goal

pub returns : goal.returns
returns c = loss_kept
