use Rattle.std.proofs.Common.{refl}
use Rattle.log_laws.proofs.births.unsynced.none_at_boot.Goals as goal

pub returns : goal.returns
returns c = λ system. refl
