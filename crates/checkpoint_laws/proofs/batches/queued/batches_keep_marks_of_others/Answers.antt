use Rattle.checkpoint_laws.proofs.batches.QueuedBatch.{queued_before, queued_kept}
use Rattle.checkpoint_laws.proofs.batches.queued.batches_keep_marks_of_others.Goals as goal

pub returns-clause-kept : goal.returns-clause-kept
returns-clause-kept c system log k p q s read took indices process valid legal b apart unended low = queued_kept system k p q s read took process valid apart log indices legal b unended low

pub returns-clause-before : goal.returns-clause-before
returns-clause-before c system log k p q s read took indices process valid legal b apart unended low = queued_before system k p q s read took process valid apart log indices legal b unended low
