use Rattle.text_parts.specs.Lines.{lines_of}
use Rattle.sys_text.proofs.Blocks.{refused_is_counted, refused_closes}
use Rattle.sys_text.proofs.block.close_block.Goals as goal

pub block_refused-requires : goal.block_refused-requires
block_refused-requires c = refused_is_counted c.args.header c.args.block.now c.in-Err.refused c.in-Err.ensures.exact c.requires.few

pub returns-in-Err-clause-step : goal.returns-in-Err-clause-step
returns-in-Err-clause-step c = refused_closes c.args.reader.now.state c.args.header c.args.number (lines_of c.args.block.now) c.in-Err.refused c.block_refused.result c.in-Err.ensures.exact c.block_refused.ensures
