use Rattle.cluster_core.proofs.absorbing.KnownPlaces.{known_after, left_alike, moved_alike}
use Rattle.cluster_core.proofs.hearing.placements_stay_known.Goals as goal

pub returns-clause-known : goal.returns-clause-known
returns-clause-known c = known_after

pub returns-clause-moved : goal.returns-clause-moved
returns-clause-moved c = moved_alike

pub returns-clause-left : goal.returns-clause-left
returns-clause-left c = left_alike
