use Rattle.std.proofs.Common.{◌≡◌, ◌+◌, length, drop}
use Rattle.std.specs.List.{All, Contains}
use Rattle.rv_asm.specs.Labels.{labels_from}
use Rattle.rv_asm.specs.Parsed.{texts_of}
use Rattle.rv_asm.specs.Program.{reading_of_lines}
use Rattle.rv_asm.proofs.Reading.{ReadsOn}
use Rattle.rv_asm.proofs.program.words_of_lines.Given as goal

abbrev pub invariant-loop-parsed : goal.invariant-loop-parsed
invariant-loop-parsed l = record {
  reads : ReadsOn (labels_from 1 0 (texts_of l.lines)) (reading_of_lines (texts_of l.lines)) l.words l.number (texts_of (drop l.parsed-index l.lines));
  own : All (Contains l.labels) (labels_from l.number (length l.words) (texts_of (drop l.parsed-index l.lines)));
  number : l.number ≡ l.parsed-index + 1;
}
