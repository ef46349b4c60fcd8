use Rattle.log_laws.proofs.letters.LogReads.{process_reads, silent_reads}
use Rattle.log_laws.proofs.letters.reads.reads_are_from_fronts.Goals as goal

pub returns-clause-now : goal.returns-clause-now
returns-clause-now c = process_reads

pub returns-clause-silent : goal.returns-clause-silent
returns-clause-silent c = silent_reads
