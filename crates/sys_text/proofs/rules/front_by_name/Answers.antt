use Rattle.std.proofs.Common.{rules}
use Rattle.text_parts.specs.Lines.{fields_of}
use Rattle.sys_text.proofs.LineSteps.{starts}
use Rattle.sys_text.proofs.rules.front_by_name.Goals as goal

pub returns-in-Some-keyword_in_stage : goal.returns-in-Some-keyword_in_stage
returns-in-Some-keyword_in_stage c =
    starts c.args.state.now c.args.line.now c.in-Some-keyword_in_stage.keyword c.in-Some.first.now (fields_of c.in-Some.text.now) (search rules) (search rules) (search rules) (search rules)
