use Rattle.log_laws.proofs.births.FirstChild.{none_first}
use Rattle.log_laws.proofs.births.first_child.none_is_first.Goals as goal

pub returns : goal.returns
returns c = none_first
