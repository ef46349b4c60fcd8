use Rattle.sys_text.proofs.LineSteps.{words_start}
use Rattle.sys_text.proofs.rules.front_of.Goals as goal

pub returns-in-Some : goal.returns-in-Some
returns-in-Some c = words_start c.args.state.now c.args.line.now c.in-Some.text.now c.in-Some.ensures
