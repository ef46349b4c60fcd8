use Rattle.std.proofs.Common.{◌≡◌, ◌+◌, ◌≤◌, length}
use Rattle.std.specs.List.{slice_get}
use Rattle.text_parts.specs.Lines.{lines_of}
use Rattle.hints.specs.AsmLines.{block_with, blocks_from}
use Rattle.hints.proofs.asm_lines.block_with.Given as goal

abbrev pub invariant-loop-rest : goal.invariant-loop-rest
invariant-loop-rest l = record {
  same : slice_get (blocks_from l.around l.number (lines_of l.rest)) l.left ≡ block_with (lines_of l.text) l.image;
  few : l.number + length l.rest ≤ length l.text;
}

abbrev pub decreases-loop-rest : goal.decreases-loop-rest
decreases-loop-rest l = length l.rest
