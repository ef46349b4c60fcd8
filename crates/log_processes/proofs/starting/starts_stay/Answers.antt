use Rattle.log_processes.proofs.Beside.{goes_on}
use Rattle.log_processes.proofs.starting.starts_stay.Goals as goal

pub returns : goal.returns
returns c = λ system log e p t start saved s valid legal may unended still before there. goes_on system log e p valid legal may unended still t start saved there before.begins before.letters
