use Rattle.std.proofs.Common.{subst, sym}
use Rattle.log_cuts.specs.SentPages.{NoneSent}
use Rattle.log_cuts.proofs.Putting.{none_sent}
use Rattle.log_cuts.proofs.sent_pages.SentPages.none.Goals as goal

pub returns-clause-none : goal.returns-clause-none
returns-clause-none c = subst NoneSent (sym c.new.ensures.empty) none_sent
