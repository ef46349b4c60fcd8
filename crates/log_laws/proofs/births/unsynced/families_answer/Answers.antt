use Rattle.log_laws.proofs.births.FamilyKept.{asked_of_births, births_may_stand}
use Rattle.log_laws.proofs.births.unsynced.families_answer.Goals as goal

pub returns-clause-asked : goal.returns-clause-asked
returns-clause-asked c = asked_of_births

pub returns-clause-births : goal.returns-clause-births
returns-clause-births c = births_may_stand
