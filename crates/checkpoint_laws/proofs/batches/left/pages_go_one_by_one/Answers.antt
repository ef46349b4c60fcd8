use Rattle.checkpoint_laws.proofs.batches.PageSent.{page_sent}
use Rattle.checkpoint_laws.proofs.batches.left.pages_go_one_by_one.Goals as goal

pub returns : goal.returns
returns c system log k p s read took i indices = page_sent system log k p s i read took indices
