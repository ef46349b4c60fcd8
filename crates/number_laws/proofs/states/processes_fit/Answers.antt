use Rattle.number_laws.proofs.LogPids.{states_fit}
use Rattle.number_laws.proofs.states.processes_fit.Goals as goal

pub returns : goal.returns
returns c = states_fit
