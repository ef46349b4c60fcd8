use Rattle.std.proofs.Common.{◌≡◌, ◌+◌, ◌≤◌, length}
use Rattle.text_parts.specs.Lines.{lines_of}
use Rattle.hints.specs.AsmLines.{word_line}
use Rattle.hints.proofs.asm_lines.word_line.Given as goal

abbrev pub invariant-loop-rest : goal.invariant-loop-rest
invariant-loop-rest l = record {
  same : word_line l.header l.number l.left (lines_of l.rest) ≡ word_line l.header 0 l.word (lines_of l.text);
  few : l.number + length l.rest ≤ length l.text;
}

abbrev pub decreases-loop-rest : goal.decreases-loop-rest
decreases-loop-rest l = length l.rest
