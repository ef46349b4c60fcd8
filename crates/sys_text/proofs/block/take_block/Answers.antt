use Rattle.std.proofs.Common.{◌≡◌, ◌+◌, [], None, rules, ap, ◌∙◌}
use Rattle.text_parts.specs.Lines.{lines_of}
use Rattle.rv_asm.specs.Program.{reading_of_lines}
use Rattle.sys_text.specs.Reading.{lines_before_end, reading_from, goes_on}
use Rattle.sys_text.proofs.Blocks.{no_end, block_read, refused_read}
use Rattle.sys_text.proofs.block.take_block.Goals as goal

pub returns-in_default-clause-read : goal.returns-in_default-clause-read
returns-in_default-clause-read c =
    let none : lines_before_end (lines_of c.args.text.now) ≡ None = search (rules, c.in_default.ensures.ended) in
    rw (no_end c.args.reader.now.state c.args.header c.args.header [] (lines_of c.args.text.now) none) c.ended_in_block.ensures

pub returns-in-Err-clause-read : goal.returns-in-Err-clause-read
returns-in-Err-clause-read c =
    let block = c.in-Some.block in
    rw (block_read c.args.reader.now.state c.args.header block.lines c.args.text.now block.text.now block.after.now c.in-Some.ensures.ended c.in-Some.ensures.lines c.in-Some.ensures.after)
    (refused_read c.in-Err.refused c.args.reader.now.state c.args.header _ (reading_of_lines (lines_of block.text.now)) (lines_of block.after.now) (λ next. reading_from next (c.args.header + block.lines + 1) (lines_of block.after.now)) c.in-Err.ensures.step)

pub returns-in-Ok-clause-read : goal.returns-in-Ok-clause-read
returns-in-Ok-clause-read c =
    let block = c.in-Some.block in
    block_read c.args.reader.now.state c.args.header block.lines c.args.text.now block.text.now block.after.now c.in-Some.ensures.ended c.in-Some.ensures.lines c.in-Some.ensures.after
    ∙ ap (λ s. goes_on s (lines_of block.after.now) (λ next. reading_from next (c.args.header + block.lines + 1) (lines_of block.after.now))) c.in-Ok.ensures.step
