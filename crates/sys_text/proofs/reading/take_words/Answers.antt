use Rattle.std.proofs.Common.{sym}
use Rattle.sys_text.proofs.WordLines.{words_step}
use Rattle.sys_text.proofs.reading.take_words.Goals as goal

pub returns-clause-step : goal.returns-clause-step
returns-clause-step c =
    words_step c.args.reader.now.state c.in-Some.block.now c.read_words.new.self c.args.number c.args.line.now c.args.fields.now c.read_words.result (sym c.in-Some.ensures.value) c.requires.words c.read_words.ensures.words c.read_words.ensures.kept c.read_words.ensures.refused
