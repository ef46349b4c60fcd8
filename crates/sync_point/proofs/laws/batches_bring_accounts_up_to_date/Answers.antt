use Rattle.sync_point.proofs.PageLaws.{come_now, come_kept}
use Rattle.sync_point.proofs.WholeLaws.{come_whole}
use Rattle.sync_point.proofs.laws.batches_bring_accounts_up_to_date.Goals as goal

pub returns-clause-now : goal.returns-clause-now
returns-clause-now c = come_now

pub returns-clause-kept : goal.returns-clause-kept
returns-clause-kept c = come_kept

pub returns-clause-whole : goal.returns-clause-whole
returns-clause-whole c = come_whole
