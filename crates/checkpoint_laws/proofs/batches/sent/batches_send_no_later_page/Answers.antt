use Rattle.checkpoint_laws.proofs.batches.LaterPages.{own_upto, others_upto, sync_upto}
use Rattle.checkpoint_laws.proofs.batches.sent.batches_send_no_later_page.Goals as goal

pub returns-clause-own : goal.returns-clause-own
returns-clause-own c = own_upto

pub returns-clause-others : goal.returns-clause-others
returns-clause-others c system log k p q s i n = others_upto system log k p s q i n

pub returns-clause-sync : goal.returns-clause-sync
returns-clause-sync c system log k p q s read took n = sync_upto system log k p s q read took n
