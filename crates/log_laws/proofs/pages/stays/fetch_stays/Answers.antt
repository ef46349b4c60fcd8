use Rattle.log_laws.proofs.pages.Keeping.{fetch_kept}
use Rattle.log_laws.proofs.pages.stays.fetch_stays.Goals as goal

pub returns : goal.returns
returns c = fetch_kept
