use Rattle.backup_queue.proofs.ReadingLaws.{fronts_at_start, fronts_saved, fronts_read}
use Rattle.backup_queue.proofs.reading.reads_are_fronts.Goals as goal

pub returns-clause-none : goal.returns-clause-none
returns-clause-none c = fronts_at_start

pub returns-clause-saved : goal.returns-clause-saved
returns-clause-saved c = fronts_saved

pub returns-clause-read : goal.returns-clause-read
returns-clause-read c = fronts_read
