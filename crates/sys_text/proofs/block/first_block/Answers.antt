use Rattle.std.proofs.Common.{◌+◌, ap, ◌∙◌, arith, rules}
use Rattle.text_parts.specs.Lines.{lines_of}
use Rattle.text_parts.proofs.Parting.{IsParted, part_more, front_is}
use Rattle.sys_text.proofs.block.first_block.Goals as goal

pub loop-rest-preserved : goal.loop-rest-preserved
loop-rest-preserved c = record {
  parted = part_more c.args.text.now c.loop-rest.rest.now c.first_line.result.1.now c.loop-rest.lines (omega (arith, c.first_line.ensures.shorter)) c.first_line.ensures.rest c.loop-rest.invariant.parted;
  same = search rules;
  few = omega (arith, c.loop-rest.invariant.few, c.first_line.ensures.shorter);
}

pub returns-then-is_end-clause-after : goal.returns-then-is_end-clause-after
returns-then-is_end-clause-after c =
    let parted : IsParted c.args.text.now (c.loop-rest.lines + 1) c.first_line.result.1.now = part_more c.args.text.now c.loop-rest.rest.now c.first_line.result.1.now c.loop-rest.lines (omega (arith, c.first_line.ensures.shorter)) c.first_line.ensures.rest c.loop-rest.invariant.parted in
    parted.left

pub returns-then-is_end-clause-lines : goal.returns-then-is_end-clause-lines
returns-then-is_end-clause-lines c = ap lines_of c.split_at.ensures.front ∙ front_is c.args.text.now c.loop-rest.rest.now c.loop-rest.lines c.loop-rest.invariant.parted
