use Rattle.backup_laws.proofs.Given.{waiting_owed}
use Rattle.backup_laws.proofs.awaited.waiting_processes_are_owed.Goals as goal

pub returns : goal.returns
returns c = waiting_owed
