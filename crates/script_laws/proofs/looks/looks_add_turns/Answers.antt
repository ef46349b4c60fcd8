use Rattle.script_laws.proofs.LookedOn.{adds_after, adds_losses, adds_turns, none_is_reached}
use Rattle.script_laws.proofs.looks.looks_add_turns.Goals as goal

pub returns-clause-some : goal.returns-clause-some
returns-clause-some c = adds_turns

pub returns-clause-after : goal.returns-clause-after
returns-clause-after c = adds_after

pub returns-clause-losses : goal.returns-clause-losses
returns-clause-losses c = adds_losses

pub returns-clause-none_reached : goal.returns-clause-none_reached
returns-clause-none_reached c = none_is_reached
