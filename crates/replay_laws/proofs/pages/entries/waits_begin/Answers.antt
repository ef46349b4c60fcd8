use Rattle.replay_laws.proofs.pages.Begins.{begins_so}
use Rattle.replay_laws.proofs.pages.RecordPages.{has_pages_so}
use Rattle.replay_laws.proofs.pages.entries.waits_begin.Goals as goal

pub returns-clause-some : goal.returns-clause-some
returns-clause-some c system log p kept valid legal unended stated is = (has_pages_so system log p kept valid legal unended stated is).some

pub returns-clause-at_most : goal.returns-clause-at_most
returns-clause-at_most c system log p kept valid legal unended stated is = (has_pages_so system log p kept valid legal unended stated is).at_most

pub returns-clause-begins : goal.returns-clause-begins
returns-clause-begins c = begins_so
