use Rattle.std.proofs.Common.{arith}
use Rattle.text_parts.specs.Lines.{lines_of}
use Rattle.targon_cli.proofs.Parts.{before_within}
use Rattle.targon_cli.proofs.sections.lines_before_section.Goals as goal

pub returns-then-begins_section-clause-within : goal.returns-then-begins_section-clause-within
returns-then-begins_section-clause-within c = omega (arith, before_within c.args.word.now (lines_of c.args.text.now), c.loop-rest.invariant.same)

pub returns-clause-within : goal.returns-clause-within
returns-clause-within c = omega (arith, before_within c.args.word.now (lines_of c.args.text.now), c.loop-rest.invariant.same)
