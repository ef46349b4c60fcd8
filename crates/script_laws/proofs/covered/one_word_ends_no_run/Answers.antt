use Rattle.script_laws.proofs.CoveredLosses.{few_losses_close, one_word_closes}
use Rattle.script_laws.proofs.covered.one_word_ends_no_run.Goals as goal

pub returns-clause-few : goal.returns-clause-few
returns-clause-few c = few_losses_close

pub returns-clause-word : goal.returns-clause-word
returns-clause-word c = one_word_closes
