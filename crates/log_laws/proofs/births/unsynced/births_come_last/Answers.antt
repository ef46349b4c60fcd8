use Rattle.log_laws.proofs.births.NewBirth.{birth_last, stands_in_none, child_apart}
use Rattle.log_laws.proofs.births.unsynced.births_come_last.Goals as goal

pub returns-clause-last : goal.returns-clause-last
returns-clause-last c = birth_last

pub returns-clause-new : goal.returns-clause-new
returns-clause-new c = stands_in_none

pub returns-clause-other : goal.returns-clause-other
returns-clause-other c = child_apart
