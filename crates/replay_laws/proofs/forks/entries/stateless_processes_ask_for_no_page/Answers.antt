use Rattle.replay_laws.proofs.forks.Pageless.{none_asked, none_comes}
use Rattle.replay_laws.proofs.forks.entries.stateless_processes_ask_for_no_page.Goals as goal

pub returns-clause-asks : goal.returns-clause-asks
returns-clause-asks c = none_asked

pub returns-clause-comes : goal.returns-clause-comes
returns-clause-comes c = none_comes
