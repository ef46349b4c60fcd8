use Rattle.std.proofs.Common.{◌≡◌, ◌+◌, ◌≤◌, length}
use Rattle.text_parts.specs.Lines.{lines_of}
use Rattle.sys_text.specs.Reading.{ended_in_block}
use Rattle.sys_text.proofs.block.ended_in_block.Given as goal

abbrev pub invariant-loop-rest : goal.invariant-loop-rest
invariant-loop-rest l = record {
  same : ended_in_block l.number (lines_of l.rest) ≡ ended_in_block l.header (lines_of l.block);
  few : l.number + length l.rest ≤ l.header + length l.block;
}

abbrev pub decreases-loop-rest : goal.decreases-loop-rest
decreases-loop-rest l = length l.rest
