use Rattle.std.proofs.Common.{◌≡◌, ◌+◌, ◌++◌, drop}
use Rattle.rv_asm.specs.SortedLabels.{places_of}
use Rattle.rv_asm.specs.Labels.{labels_from}
use Rattle.rv_asm.specs.Parsed.{texts_of}
use Rattle.rv_asm.proofs.program.label_table.Given as goal

abbrev pub invariant-loop-parsed : goal.invariant-loop-parsed
invariant-loop-parsed l = record {
  labels : places_of l.rows.items ++ labels_from l.number l.words (texts_of (drop l.parsed-index l.lines)) ≡ labels_from 1 0 (texts_of l.lines);
  number : l.number ≡ l.parsed-index + 1;
}
