use Rattle.checkpoint_laws.proofs.posts.CutMarks.{synced_marks}
use Rattle.checkpoint_laws.proofs.posts.cuts.cuts_clear_marks.Goals as goal

pub returns : goal.returns
returns c = synced_marks
