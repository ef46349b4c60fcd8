use Rattle.sync_point.proofs.PageLaws.{sent_each, sent_rise}
use Rattle.sync_point.proofs.laws.batches_have_the_marked_pages.Goals as goal

pub returns-clause-each : goal.returns-clause-each
returns-clause-each c = sent_each

pub returns-clause-rising : goal.returns-clause-rising
returns-clause-rising c = sent_rise
