use Rattle.log_laws.proofs.letters.RollingReads.{silent_next}
use Rattle.log_laws.proofs.letters.reads.all_letters_arrived.Goals as goal

pub returns : goal.returns
returns c = silent_next
