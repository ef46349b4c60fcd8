use Rattle.number_laws.proofs.NextPids.{pid_fits}
use Rattle.number_laws.proofs.serials.next_pids_fit.Goals as goal

pub returns : goal.returns
returns c = pid_fits
