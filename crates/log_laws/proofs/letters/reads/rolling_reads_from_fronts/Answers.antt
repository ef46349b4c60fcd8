use Rattle.log_laws.proofs.letters.RollingReads.{rolling_reads}
use Rattle.log_laws.proofs.letters.reads.rolling_reads_from_fronts.Goals as goal

pub returns : goal.returns
returns c = rolling_reads
