use Rattle.backup_laws.proofs.SpreadSafe.{spread_covered}
use Rattle.backup_laws.proofs.spread.spread_losses_are_covered.Goals as goal

pub returns : goal.returns
returns c = spread_covered
