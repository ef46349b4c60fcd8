use Rattle.std.proofs.Common.{◌∙◌, None, Some, refl, sym}
use Rattle.targon_cli.proofs.Causes.{answered_found}
use Rattle.targon_cli.proofs.Endings.{explained_found, explained_6, none_noted, noted_found}
use Rattle.targon_cli.proofs.Limits.{words_ready}
use Rattle.targon_cli.proofs.top.targon_noted.Goals as goal

pub returns-in-Some-clause-answered : goal.returns-in-Some-clause-answered
returns-in-Some-clause-answered g c = answered_found c.args.words.now (Some c.in-Some.command) _ _ _ _ _ _ _ (sym c.in-Some.is ∙ c.in-Ok.ensures) c.answer_any.ensures.answered

pub returns-in-Some-clause-explained : goal.returns-in-Some-clause-explained
returns-in-Some-clause-explained g c = explained_found c.args.words.now (Some c.in-Some.command) _ _ _ _ _ (sym c.in-Some.is ∙ c.in-Ok.ensures) c.answer_any.ensures.explained

pub returns-in-None-clause-answered : goal.returns-in-None-clause-answered
returns-in-None-clause-answered g c = answered_found c.args.words.now None _ _ _ _ _ _ _ (sym c.in-None.is ∙ c.in-Ok.ensures) (c.usage.ensures.said, c.requires, refl)

pub returns-in-None-clause-explained : goal.returns-in-None-clause-explained
returns-in-None-clause-explained g c = explained_found c.args.words.now None _ _ _ _ _ (sym c.in-None.is ∙ c.in-Ok.ensures) c.usage.ensures.explained

pub returns-in_default-clause-explained : goal.returns-in_default-clause-explained
returns-in_default-clause-explained g c = explained_6 c.args.words.now _ _ _ _ c.why_of.ensures

pub returns-in-Some-clause-noted : goal.returns-in-Some-clause-noted
returns-in-Some-clause-noted g c = noted_found c.args.words.now (Some c.in-Some.command) _ _ _ _ _ (sym c.in-Some.is ∙ c.in-Ok.ensures) c.answer_any.ensures.noted

pub returns-in-None-clause-noted : goal.returns-in-None-clause-noted
returns-in-None-clause-noted g c = noted_found c.args.words.now None _ _ _ _ _ (sym c.in-None.is ∙ c.in-Ok.ensures) c.word_notes.ensures

pub returns-in_default-clause-noted : goal.returns-in_default-clause-noted
returns-in_default-clause-noted g c = none_noted c.args.words.now _ _ _ _ _ refl

pub answer_any-requires-clause-ready : goal.answer_any-requires-clause-ready
answer_any-requires-clause-ready g c κs within = words_ready c.args.words.now (Some c.in-Some.command) (sym c.in-Some.is ∙ c.in-Ok.ensures)
