use Rattle.log_laws.proofs.births.UnsyncedChild.{stateless}
use Rattle.log_laws.proofs.births.first_child.unsynced_children_have_no_state.Goals as goal

pub returns : goal.returns
returns c = stateless
