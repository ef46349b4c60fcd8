use Rattle.log_laws.proofs.pages.StartPages.{stand_waits}
use Rattle.cert_sched.specs.Legal.{MayStand}
use Rattle.checkpoint_laws.proofs.marks.AwaitedPages.{lacks_sent, lacks_kept}
use Rattle.checkpoint_laws.proofs.marks.begun.lacking_pages_sends_none.Goals as goal

pub returns-clause-none : goal.returns-clause-none
returns-clause-none c = lacks_sent MayStand stand_waits

pub returns-clause-kept : goal.returns-clause-kept
returns-clause-kept c = lacks_kept MayStand stand_waits
