use Rattle.sys_text.proofs.Words.{are_words}
use Rattle.sys_text.proofs.types.words_fit.Goals as goal

pub returns : goal.returns
returns c = are_words c.args._words.now (λ i. (c.type_inv._words i).fits)
