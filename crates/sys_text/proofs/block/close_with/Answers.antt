use Rattle.std.proofs.Common.{◌*◌, ◌<◌, length, sym, arith}
use Rattle.sys_text.specs.declared.refusal.Rule.TheVariants.{Room}
use Rattle.sys_text.proofs.Blocks.{words_too_many}
use Rattle.sys_text.proofs.block.close_with.Goals as goal

pub returns-then-len-from-clause-step : goal.returns-then-len-from-clause-step
returns-then-len-from-clause-step c =
    let image = c.in-Some.block.now in
    let many : 64 * image.pages < length c.args.words = omega (arith, c.if-len-from.true, c.len.ensures, c.from.ensures, c.pages.ensures) in
    (Room, words_too_many c.args.reader.now.state c.args.header c.args.number c.args.words image (sym c.in-Some.ensures.value) many, c.number.ensures)
