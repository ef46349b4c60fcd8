use Rattle.std.proofs.Common.{Some}
use Rattle.std.proofs.lemmas.List.{length-set}
use Rattle.page_waits.proofs.OnePage.{others_same, written_there}
use Rattle.page_waits.proofs.laws.one_page_comes.Goals as goal

pub returns-clause-there : goal.returns-clause-there
returns-clause-there c = λ w i page within. written_there w.come i (Some page) within

pub returns-clause-others : goal.returns-clause-others
returns-clause-others c = λ w i j page differ. others_same w.come i j (Some page) differ

pub returns-clause-number : goal.returns-clause-number
returns-clause-number c = λ w i page. length-set w.come i (Some page)
