use Rattle.log_laws.proofs.records.RisingRecords.{kept_once}
use Rattle.log_laws.proofs.records.lists.records_are_determined.Goals as goal

pub returns : goal.returns
returns c = kept_once
