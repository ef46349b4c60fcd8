use Rattle.checkpoint_laws.proofs.limits.SendingLimits.{sent_keeps, letter_keeps, exit_keeps}
use Rattle.checkpoint_laws.proofs.limits.sending.sending_keeps_limits.Goals as goal

pub returns-clause-after : goal.returns-clause-after
returns-clause-after c = sent_keeps

pub returns-clause-letter : goal.returns-clause-letter
returns-clause-letter c = letter_keeps

pub returns-clause-exit : goal.returns-clause-exit
returns-clause-exit c = exit_keeps
