use Rattle.checkpoint_laws.proofs.batches.RestMarks.{rest_marks, last_cuts}
use Rattle.checkpoint_laws.proofs.batches.ended.batches_end_marked.Goals as goal

pub returns-clause-marked : goal.returns-clause-marked
returns-clause-marked c = rest_marks

pub returns-clause-cuts : goal.returns-clause-cuts
returns-clause-cuts c = last_cuts
