use Rattle.checkpoint_laws.proofs.marks.AllMarked.{all_marked}
use Rattle.checkpoint_laws.proofs.marks.forks.children_begin_marked.Goals as goal

pub returns : goal.returns
returns c = all_marked
