use Rattle.backup_laws.proofs.RenewalMarks.{renewal_others, renewal_own, renewal_sent_before}
use Rattle.backup_laws.proofs.renewals.renewals_keep_what_was_sent.Goals as goal

pub returns-clause-own : goal.returns-clause-own
returns-clause-own c system log k to p s indices n = renewal_own system k to p s n log indices

pub returns-clause-others : goal.returns-clause-others
returns-clause-others c system log k to p q s indices n = renewal_others system k to p s n q log indices

pub returns-clause-before : goal.returns-clause-before
returns-clause-before c system log k to p q s indices n = renewal_sent_before system k to p s n q log indices
