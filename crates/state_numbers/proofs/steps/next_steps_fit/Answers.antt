use Rattle.state_numbers.proofs.Stepping.{next_fits}
use Rattle.state_numbers.proofs.steps.next_steps_fit.Goals as goal

pub returns : goal.returns
returns c = next_fits
