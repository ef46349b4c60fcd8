use Rattle.backup_queue.proofs.ReadingLaws.{ends_at_start, ends_saved, ends_read}
use Rattle.backup_queue.proofs.reading.reads_are_on_ends.Goals as goal

pub returns-clause-none : goal.returns-clause-none
returns-clause-none c = ends_at_start

pub returns-clause-saved : goal.returns-clause-saved
returns-clause-saved c = ends_saved

pub returns-clause-read : goal.returns-clause-read
returns-clause-read c = ends_read
