use Rattle.checkpoint_laws.proofs.batches.QueuedBatch.{queued_others, queued_own, queued_sent_before}
use Rattle.checkpoint_laws.proofs.batches.queued.batches_keep_what_was_sent.Goals as goal

pub returns-clause-own : goal.returns-clause-own
returns-clause-own c system log k p s read took indices n = queued_own system k p s read took n log indices

pub returns-clause-others : goal.returns-clause-others
returns-clause-others c system log k p q s read took indices n = queued_others system k p s read took n q log indices

pub returns-clause-before : goal.returns-clause-before
returns-clause-before c system log k p q s read took indices n = queued_sent_before system k p s read took n q log indices
