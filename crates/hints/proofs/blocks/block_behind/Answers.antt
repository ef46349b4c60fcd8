use Rattle.std.proofs.Common.{◌∙◌, ◌+◌, ◌-◌, ◌<◌, sym, ap, arith}
use Rattle.text_parts.specs.Lines.{lines_of}
use Rattle.hints.specs.Blocks.{block_after}
use Rattle.hints.proofs.BlockLaws.{block_after-line}
use Rattle.hints.proofs.blocks.block_behind.Goals as goal

pub loop-left-preserved : goal.loop-left-preserved
loop-left-preserved c =
    let some : 0 < c.loop-left.left = omega arith in
    let line = c.first_line.result.0.now in
    let rest = c.first_line.result.1.now in
    record {
      same =
          ap (λ b. block_after b (c.loop-left.number + 1) (c.loop-left.left - 1) (lines_of rest)) c.with_line-around.ensures
          ∙ sym (block_after-line c.loop-left.around c.loop-left.number c.loop-left.left line (lines_of rest) some)
          ∙ sym (ap (block_after c.loop-left.around c.loop-left.number c.loop-left.left) c.first_line.ensures.lines)
          ∙ c.loop-left.invariant.same;
      few = omega (arith, c.first_line.ensures.shorter);
    }
