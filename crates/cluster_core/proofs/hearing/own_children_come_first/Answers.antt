use Rattle.cluster_core.proofs.births.OwnChildren.{own_first}
use Rattle.cluster_core.proofs.hearing.own_children_come_first.Goals as goal

pub returns : goal.returns
returns c = own_first
