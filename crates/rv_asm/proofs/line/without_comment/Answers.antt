use Rattle.std.proofs.Common.{length, sym, ◌∙◌}
use Rattle.std.proofs.lemmas.Bool.{eqb-true}
use Rattle.rv_asm.proofs.Cuts.{no_sign_cut, no_quote_cut}
use Rattle.rv_asm.proofs.line.without_comment.Goals as goal

pub returns-then-is_empty : goal.returns-then-is_empty
returns-then-is_empty c = no_sign_cut c.args.line.now c.cut_far.result.1.now c.cut_far.ensures.from (eqb-true (length c.cut_far.result.1.now) 0 (sym c.is_empty.ensures ∙ c.if-is_empty.true))

pub returns-then-is_empty-2 : goal.returns-then-is_empty-2
returns-then-is_empty-2 c = no_quote_cut c.args.line.now c.cut_far.result.0.now c.cut_far-2.result.1.now c.cut_far.ensures.before c.cut_far-2.ensures.from (eqb-true (length c.cut_far-2.result.1.now) 0 (sym c.is_empty-2.ensures ∙ c.if-is_empty-2.true))
