use Rattle.script_laws.proofs.Alternating.{silent_between}
use Rattle.script_laws.proofs.turns.lost_clusters_send_nothing.Goals as goal

pub returns : goal.returns
returns c = silent_between
