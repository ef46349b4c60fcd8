use Rattle.cluster_core.proofs.heard.Heard.{taken_in_heard}
use Rattle.cluster_core.proofs.hearing.heard_entries_are_followed.Goals as goal

pub returns : goal.returns
returns c = taken_in_heard
