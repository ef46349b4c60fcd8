use Rattle.std.proofs.Common.{◌≡◌, ◌+◌, ◌≤◌, length}
use Rattle.text_parts.specs.Lines.{lines_of}
use Rattle.hints.specs.Blocks.{block_after, block_behind}
use Rattle.hints.proofs.blocks.block_behind.Given as goal

abbrev pub invariant-loop-left : goal.invariant-loop-left
invariant-loop-left l = record {
  same : block_after l.around l.number l.left (lines_of l.rest) ≡ block_behind (lines_of l.text) l.count;
  few : l.number + length l.rest ≤ length l.text;
}

abbrev pub decreases-loop-left : goal.decreases-loop-left
decreases-loop-left l = length l.rest
