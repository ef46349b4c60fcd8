use Rattle.log_processes.proofs.Booted.{kept_at_boot}
use Rattle.log_processes.proofs.starting.at_boot.Goals as goal

pub returns : goal.returns
returns c = kept_at_boot
