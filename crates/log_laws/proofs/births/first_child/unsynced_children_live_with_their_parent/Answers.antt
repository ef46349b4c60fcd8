use Rattle.log_laws.proofs.births.UnsyncedChild.{lives_with_parent, parent_unended, first_lives_there}
use Rattle.log_laws.proofs.births.first_child.unsynced_children_live_with_their_parent.Goals as goal

pub returns-clause-home : goal.returns-clause-home
returns-clause-home c = lives_with_parent

pub returns-clause-parent : goal.returns-clause-parent
returns-clause-parent c = parent_unended

pub returns-clause-first : goal.returns-clause-first
returns-clause-first c = first_lives_there
