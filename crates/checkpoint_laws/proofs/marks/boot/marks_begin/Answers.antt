use Rattle.checkpoint_laws.proofs.marks.BootMarks.{boot_marks}
use Rattle.checkpoint_laws.proofs.marks.boot.marks_begin.Goals as goal

pub returns : goal.returns
returns c = boot_marks
