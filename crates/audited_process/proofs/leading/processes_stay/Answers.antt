use Rattle.audited_process.proofs.Room.{stays_unended}
use Rattle.audited_process.proofs.leading.processes_stay.Goals as goal

pub returns : goal.returns
returns c = stays_unended
