use Rattle.std.proofs.Common.{arith}
use Rattle.text_parts.proofs.Parting.{part_more, left_nonempty}
use Rattle.text_parts.proofs.lines.split_lines.Goals as goal

pub loop-preserved : goal.loop-preserved
loop-preserved c = record {
  parted = part_more c.args.text.now c.loop.rest.now c.first_line.result.1.now c.loop.counter (left_nonempty c.args.text.now c.loop.rest.now c.loop.counter (omega arith) c.loop.invariant.parted) c.first_line.ensures.rest c.loop.invariant.parted;
  shorter = omega arith;
}
