use Rattle.std.proofs.Common.{◌≡◌, ◌+◌, ◌≤◌, length}
use Rattle.text_parts.specs.Lines.{lines_of}
use Rattle.sys_text.specs.Reading.{Outside, reading_from, reading_of}
use Rattle.sys_text.specs.Rules.{HasRoom}
use Rattle.sys_text.specs.ImageNames.{KnowsImages}
use Rattle.sys_text.proofs.reading.read_lines.Given as goal

abbrev pub invariant-loop-rest : goal.invariant-loop-rest
invariant-loop-rest l = record {
  same : reading_from (Outside l.reader.state) l.number (lines_of l.rest) ≡ reading_of l.text;
  room : HasRoom l.reader.state;
  known : KnowsImages l.reader;
  few : l.number + length l.rest ≤ length l.text;
}

abbrev pub decreases-loop-rest : goal.decreases-loop-rest
decreases-loop-rest l = length l.rest
