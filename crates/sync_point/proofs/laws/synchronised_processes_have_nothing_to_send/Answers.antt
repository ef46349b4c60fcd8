use Rattle.sync_point.proofs.PostLaws.{sync_alone}
use Rattle.sync_point.proofs.laws.synchronised_processes_have_nothing_to_send.Goals as goal

pub returns-clause-alone : goal.returns-clause-alone
returns-clause-alone c = sync_alone
