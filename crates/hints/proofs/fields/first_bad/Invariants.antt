use Rattle.std.proofs.Common.{◌≡◌, ◌+◌, ◌≤◌, length}
use Rattle.text_parts.specs.Lines.{fields_of}
use Rattle.hints.specs.Fields.{first_bad}
use Rattle.hints.proofs.fields.first_bad.Given as goal

abbrev pub invariant-fields : goal.invariant-fields
invariant-fields l = record {
  same : first_bad l.rule l.keyword l.clusters l.index (fields_of l.rest) ≡ first_bad l.rule l.keyword l.clusters 0 (fields_of l.fields);
  few : l.index + length l.rest ≤ length l.fields;
}

abbrev pub decreases-fields : goal.decreases-fields
decreases-fields l = length l.rest
