use Rattle.log_laws.proofs.births.FirstChild.{first_kept, first_born, first_is_unsynced, first_has_none}
use Rattle.log_laws.proofs.births.first_child.first_children_are_unsynced.Goals as goal

pub returns-clause-kept : goal.returns-clause-kept
returns-clause-kept c = first_kept

pub returns-clause-born : goal.returns-clause-born
returns-clause-born c = first_born

pub returns-clause-unsynced : goal.returns-clause-unsynced
returns-clause-unsynced c = first_is_unsynced

pub returns-clause-synced : goal.returns-clause-synced
returns-clause-synced c = first_has_none
