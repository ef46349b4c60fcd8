use Rattle.checkpoint_laws.proofs.batches.OtherSenders.{others_between, others_deeds, others_leave}
use Rattle.checkpoint_laws.proofs.batches.between.others_tell_no_deeds.Goals as goal

pub returns-clause-deeds : goal.returns-clause-deeds
returns-clause-deeds c = others_deeds

pub returns-clause-leaves : goal.returns-clause-leaves
returns-clause-leaves c = others_leave

pub returns-clause-between : goal.returns-clause-between
returns-clause-between c = others_between
