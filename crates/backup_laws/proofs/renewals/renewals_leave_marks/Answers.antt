use Rattle.backup_laws.proofs.RenewalMarks.{counts_kept, pages_marked, renewal_before, renewal_kept, renewal_marked}
use Rattle.backup_laws.proofs.renewals.renewals_leave_marks.Goals as goal

pub returns-clause-own : goal.returns-clause-own
returns-clause-own c system log k p process n indices valid none = pages_marked system k p process n valid none log indices

pub returns-clause-renewed : goal.returns-clause-renewed
returns-clause-renewed c system log k to p process n indices valid no_read since none = renewal_marked system k to p process n valid no_read since none log indices

pub returns-clause-counts : goal.returns-clause-counts
returns-clause-counts c = counts_kept

pub returns-clause-others : goal.returns-clause-others
returns-clause-others c system log k to p q s process indices valid apart = renewal_kept system k to p q s process valid apart log indices

pub returns-clause-before : goal.returns-clause-before
returns-clause-before c system log k to p q s process indices valid apart = renewal_before system k to p q s process valid apart log indices
