use Rattle.script_laws.proofs.WordReturns.{none_returned, returns_worded}
use Rattle.script_laws.proofs.counted.returns_are_of_words.Goals as goal

pub returns-clause-words : goal.returns-clause-words
returns-clause-words c = returns_worded

pub returns-clause-none : goal.returns-clause-none
returns-clause-none c = none_returned
