use Rattle.std.proofs.Common.{◌≡◌, ◌+◌, ◌≤◌, length}
use Rattle.text_parts.specs.Lines.{lines_of}
use Rattle.refusal_text.specs.Block.{header_after, header_before}
use Rattle.refusal_text.proofs.block.header_before.Given as goal

abbrev pub invariant-loop-left : goal.invariant-loop-left
invariant-loop-left l = record {
  same : header_after l.header l.count l.left (lines_of l.rest) ≡ header_before (lines_of l.text) l.number;
  few : l.count + length l.rest ≤ length l.text;
  lines : l.count + length (lines_of l.rest) ≡ length (lines_of l.text);
  behind : l.header ≤ l.count;
}

abbrev pub decreases-loop-left : goal.decreases-loop-left
decreases-loop-left l = length l.rest
