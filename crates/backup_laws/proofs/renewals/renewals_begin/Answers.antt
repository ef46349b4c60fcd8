use Rattle.checkpoint_laws.proofs.batches.BatchBegins.{pages_begin}
use Rattle.backup_laws.proofs.RenewalBegins.{renewal_posts}
use Rattle.backup_laws.proofs.renewals.renewals_begin.Goals as goal

pub returns-clause-pages : goal.returns-clause-pages
returns-clause-pages c = pages_begin

pub returns-clause-posts : goal.returns-clause-posts
returns-clause-posts c = renewal_posts
