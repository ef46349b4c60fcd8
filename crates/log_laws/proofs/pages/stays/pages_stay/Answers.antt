use Rattle.log_laws.proofs.pages.PagesStay.{page_count-child, page_count-snoc}
use Rattle.log_laws.proofs.pages.Keeping.{pages_kept}
use Rattle.log_laws.proofs.pages.stays.pages_stay.Goals as goal

pub returns-clause-count : goal.returns-clause-count
returns-clause-count c system log e p stands no_birth = page_count-snoc system log e p no_birth stands.applies

pub returns-clause-born : goal.returns-clause-born
returns-clause-born c system log e parent at child end stands is = page_count-child system log e parent at child end is stands.applies

pub returns-clause-pages : goal.returns-clause-pages
returns-clause-pages c = pages_kept
