use Rattle.backup_laws.proofs.RenewalStands.{pages_are_new, pages_keep_limits, pages_stand, renewal_is_new, renewal_keeps_limits, renewal_stands}
use Rattle.backup_laws.proofs.renewals.renewals_stand.Goals as goal

pub returns-clause-pages : goal.returns-clause-pages
returns-clause-pages c system log k p s = pages_stand system k p s log

pub returns-clause-stand : goal.returns-clause-stand
returns-clause-stand c system log k to p s = renewal_stands system k p s to log

pub returns-clause-new_pages : goal.returns-clause-new_pages
returns-clause-new_pages c system log k p s = pages_are_new system k p s log

pub returns-clause-new : goal.returns-clause-new
returns-clause-new c system log k to p s = renewal_is_new system k p s to log

pub returns-clause-page_limits : goal.returns-clause-page_limits
returns-clause-page_limits c system log k p s = pages_keep_limits system k p s log

pub returns-clause-limits : goal.returns-clause-limits
returns-clause-limits c system log k to p s = renewal_keeps_limits system k p s to log
