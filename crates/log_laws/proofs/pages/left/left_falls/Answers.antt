use Rattle.log_laws.proofs.pages.BornLeft.{left_birth}
use Rattle.log_laws.proofs.pages.Leaving.{left_fetch, left_page_is, left_most}
use Rattle.log_laws.proofs.pages.left.left_falls.Goals as goal

pub returns-clause-fetch : goal.returns-clause-fetch
returns-clause-fetch c = left_fetch

pub returns-clause-page_is : goal.returns-clause-page_is
returns-clause-page_is c = left_page_is

pub returns-clause-most : goal.returns-clause-most
returns-clause-most c = left_most

pub returns-clause-birth : goal.returns-clause-birth
returns-clause-birth c = left_birth
