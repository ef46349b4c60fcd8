use Rattle.replay_laws.proofs.pages.Asks.{next_fetch, next_asked}
use Rattle.replay_laws.proofs.pages.lacks.next_pages_may_be_asked.Goals as goal

pub returns-clause-fetch : goal.returns-clause-fetch
returns-clause-fetch c system log p w i waits next = next_fetch system log p w waits i next

pub returns-clause-asked : goal.returns-clause-asked
returns-clause-asked c system log p w i waits next = next_asked system log p w waits i next
