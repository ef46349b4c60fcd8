use Rattle.checkpoint_laws.proofs.marks.LetterMarks.{letter_kept, letter_before}
use Rattle.checkpoint_laws.proofs.marks.letters.letters_keep_marks.Goals as goal

pub returns-clause-kept : goal.returns-clause-kept
returns-clause-kept c = letter_kept

pub returns-clause-before : goal.returns-clause-before
returns-clause-before c = letter_before
