use Rattle.cert_sched.specs.Legal.{Stands}
use Rattle.log_laws.proofs.records.OneRecord.{record_follows}
use Rattle.log_laws.proofs.records.Standing.{itself}
use Rattle.log_laws.proofs.records.one_entry.records_follow.Goals as goal

pub returns : goal.returns
returns c = record_follows Stands itself
