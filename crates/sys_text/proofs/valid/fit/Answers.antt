use Rattle.sys_text.proofs.Words.{words_fit}
use Rattle.sys_text.proofs.valid.fit.Goals as goal

pub returns : goal.returns
returns c = words_fit c.args.words.now _ _ c.from.ensures (λ i. (c.type_inv.words i).fits)
