use Rattle.replay_laws.proofs.pages.FetchesWait.{a_fetch_waits}
use Rattle.replay_laws.proofs.pages.lacks.lacking_pages_are_waited_for.Goals as goal

pub returns : goal.returns
returns c = a_fetch_waits
