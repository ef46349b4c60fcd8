use Rattle.std.proofs.Common.{◌≡◌, ◌+◌, ◌≤◌, length}
use Rattle.text_parts.specs.Lines.{lines_of}
use Rattle.refusal_text.specs.Block.{block_size}
use Rattle.refusal_text.proofs.block.block_size.Given as goal

abbrev pub invariant-loop-rest : goal.invariant-loop-rest
invariant-loop-rest l = record {
  same : block_size (lines_of l.rest) + l.count ≡ block_size (lines_of l.text);
  few : l.count + length l.rest ≤ length l.text;
  lines : l.count + length (lines_of l.rest) ≡ length (lines_of l.text);
}

abbrev pub decreases-loop-rest : goal.decreases-loop-rest
decreases-loop-rest l = length l.rest
