use Rattle.std.proofs.Common.{◌≡◌, ◌+◌, ◌≤◌, length}
use Rattle.text_parts.specs.Lines.{lines_of}
use Rattle.targon_cli.specs.Sections.{lines_before_section}
use Rattle.targon_cli.proofs.sections.lines_before_section.Given as goal

abbrev pub invariant-loop-rest : goal.invariant-loop-rest
invariant-loop-rest l = record {
  same : lines_before_section l.word (lines_of l.rest) + l.count ≡ lines_before_section l.word (lines_of l.text);
  few : l.count + length l.rest ≤ length l.text;
}

abbrev pub decreases-loop-rest : goal.decreases-loop-rest
decreases-loop-rest l = length l.rest
