use Rattle.backup_queue.proofs.ReadingLaws.{left_read}
use Rattle.backup_queue.proofs.reading.reads_take_out.Goals as goal

pub returns : goal.returns
returns c = left_read
