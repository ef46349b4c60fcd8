use Rattle.cluster_core.proofs.heard.OwnUnheard.{sent_unheard}
use Rattle.cluster_core.proofs.hearing.own_unheard_entries_are_followed.Goals as goal

pub returns : goal.returns
returns c = sent_unheard
