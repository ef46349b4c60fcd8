use Rattle.cert_sched.specs.Legal.{MayStand}
use Rattle.log_laws.proofs.pages.StartPages.{start_stays, page_in_log, stand_waits, waits_uncut}
use Rattle.log_laws.proofs.pages.start_pages.starts_stay.Goals as goal

pub returns-clause-one : goal.returns-clause-one
returns-clause-one c = start_stays

pub returns-clause-came : goal.returns-clause-came
returns-clause-came c = page_in_log

pub returns-clause-uncut : goal.returns-clause-uncut
returns-clause-uncut c = waits_uncut MayStand stand_waits
