use Rattle.log_records.proofs.Room.{can_take}
use Rattle.log_records.proofs.records.entries_can_be_taken.Goals as goal

pub returns : goal.returns
returns c = can_take
