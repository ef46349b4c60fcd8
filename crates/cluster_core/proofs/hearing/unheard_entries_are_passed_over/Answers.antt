use Rattle.cluster_core.proofs.heard.PassedOver.{passed_over}
use Rattle.cluster_core.proofs.hearing.unheard_entries_are_passed_over.Goals as goal

pub returns : goal.returns
returns c = passed_over
