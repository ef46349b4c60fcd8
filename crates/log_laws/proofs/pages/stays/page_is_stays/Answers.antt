use Rattle.log_laws.proofs.pages.Keeping.{answer_kept}
use Rattle.log_laws.proofs.pages.stays.page_is_stays.Goals as goal

pub returns : goal.returns
returns c = answer_kept
