use Rattle.log_laws.proofs.pages.StartPages.{kept_pages, waited_unended, first_answer, next_page}
use Rattle.log_laws.proofs.pages.start_pages.pages_of_the_start.Goals as goal

pub returns-clause-kept : goal.returns-clause-kept
returns-clause-kept c = kept_pages

pub returns-clause-unended : goal.returns-clause-unended
returns-clause-unended c = waited_unended

pub returns-clause-answer : goal.returns-clause-answer
returns-clause-answer c = first_answer

pub returns-clause-next : goal.returns-clause-next
returns-clause-next c = next_page
