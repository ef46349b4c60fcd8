use Rattle.rv_asm.specs.Printing.{words_text_of}
use Rattle.rv_asm.proofs.WordLines.{line_more}
use Rattle.rv_asm.proofs.printing.words_text.Goals as goal

pub loop-rest-preserved : goal.loop-rest-preserved
loop-rest-preserved c = line_more (words_text_of c.args.words.now) c.loop-rest.text c.push_line.new.text c.loop-rest.rest.now c.split_at.result.0.now c.split_at.result.1.now c.loop-rest-test.true c.split_at.ensures.front c.split_at.ensures.back c.in_ok-push_line.ensures c.loop-rest.invariant
