use Rattle.script_laws.proofs.Alternating.{lives_by_last}
use Rattle.script_laws.proofs.turns.last_turn_says_who_lives.Goals as goal

pub returns : goal.returns
returns c = lives_by_last
