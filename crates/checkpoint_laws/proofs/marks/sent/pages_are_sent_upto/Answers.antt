use Rattle.checkpoint_laws.proofs.marks.SentPages.{sent_none, sent_moved, sent_on, sent_later}
use Rattle.checkpoint_laws.proofs.marks.sent.pages_are_sent_upto.Goals as goal

pub returns-clause-start : goal.returns-clause-start
returns-clause-start c = sent_none

pub returns-clause-moved : goal.returns-clause-moved
returns-clause-moved c = sent_moved

pub returns-clause-on : goal.returns-clause-on
returns-clause-on c = sent_on

pub returns-clause-later : goal.returns-clause-later
returns-clause-later c = sent_later
