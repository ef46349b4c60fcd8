use Rattle.text_parts.specs.Lines.{lines_of}
use Rattle.rv_asm.proofs.CleanTexts.{clean_rest}
use Rattle.rv_asm.proofs.ParsedTexts.{parsed_more}
use Rattle.rv_asm.proofs.program.parse_lines.Goals as goal

pub loop-rest-preserved : goal.loop-rest-preserved
loop-rest-preserved c = record {
  lines = parsed_more c.loop-rest.lines.items c.push.new.self.items c.parse_line.result c.first_line.result.0.now (lines_of c.loop-rest.rest.now) (lines_of c.first_line.result.1.now) (lines_of c.args.text.now) c.in_ok-push.ensures.items c.parse_line.ensures c.first_line.ensures.lines c.loop-rest.invariant.lines;
  clean = λ yes. rw c.first_line.ensures.rest (clean_rest c.loop-rest.rest.now (c.loop-rest.invariant.clean yes));
}
