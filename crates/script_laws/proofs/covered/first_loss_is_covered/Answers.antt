use Rattle.script_laws.proofs.CoveredLosses.{crashless_covered}
use Rattle.script_laws.proofs.covered.first_loss_is_covered.Goals as goal

pub returns : goal.returns
returns c = crashless_covered
