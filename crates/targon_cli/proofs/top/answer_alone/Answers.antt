use Rattle.std.proofs.Common.{refl}
use Rattle.targon_cli.proofs.top.answer_alone.Goals as goal

pub returns-in-Some-clause-answered : goal.returns-in-Some-clause-answered
returns-in-Some-clause-answered g c = rw c.in-Some.is c.answer.ensures.answered

pub returns-in-Some-clause-explained : goal.returns-in-Some-clause-explained
returns-in-Some-clause-explained g c = rw c.in-Some.is c.answer.ensures.explained

pub returns-clause-answered : goal.returns-clause-answered
returns-clause-answered g c = rw c.in-None.is (c.usage.ensures.said, c.requires.unran, refl)

pub returns-clause-explained : goal.returns-clause-explained
returns-clause-explained g c = rw c.in-None.is c.usage.ensures.explained
