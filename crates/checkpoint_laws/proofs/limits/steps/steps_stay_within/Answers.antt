use Rattle.checkpoint_laws.proofs.limits.StepLimits.{undue_within, silent_within, sending_within, letter_within, start_undue}
use Rattle.checkpoint_laws.proofs.limits.steps.steps_stay_within.Goals as goal

pub returns-clause-undue : goal.returns-clause-undue
returns-clause-undue c = undue_within

pub returns-clause-silent : goal.returns-clause-silent
returns-clause-silent c = silent_within

pub returns-clause-sends : goal.returns-clause-sends
returns-clause-sends c = sending_within

pub returns-clause-letters : goal.returns-clause-letters
returns-clause-letters c = letter_within

pub returns-clause-start : goal.returns-clause-start
returns-clause-start c = start_undue
