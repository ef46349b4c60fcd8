use Rattle.script_laws.proofs.OffSince.{off_where_lost}
use Rattle.script_laws.proofs.off.off_unless_back.Goals as goal

pub returns : goal.returns
returns c = off_where_lost
