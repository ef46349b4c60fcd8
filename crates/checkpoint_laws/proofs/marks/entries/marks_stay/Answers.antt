use Rattle.checkpoint_laws.proofs.marks.EntryMarks.{marks_kept, marks_before}
use Rattle.checkpoint_laws.proofs.marks.entries.marks_stay.Goals as goal

pub returns-clause-kept : goal.returns-clause-kept
returns-clause-kept c = marks_kept

pub returns-clause-before : goal.returns-clause-before
returns-clause-before c = marks_before
