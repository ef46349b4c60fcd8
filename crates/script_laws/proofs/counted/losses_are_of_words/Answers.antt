use Rattle.script_laws.proofs.WordLosses.{all_worded}
use Rattle.script_laws.proofs.counted.losses_are_of_words.Goals as goal

pub returns : goal.returns
returns c = all_worded
