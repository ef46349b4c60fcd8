use Rattle.checkpoint_laws.proofs.marks.ForkMarks.{birth_leaves}
use Rattle.checkpoint_laws.proofs.marks.forks.births_leave_marks.Goals as goal

pub returns : goal.returns
returns c = birth_leaves
