use Rattle.std.proofs.Common.{◌+◌, ℕ, drop, ap}
use Rattle.rv_asm.specs.SortedLabels.{places_of}
use Rattle.rv_asm.specs.Labels.{labels_from}
use Rattle.rv_asm.specs.Parsed.{texts_of}
use Rattle.rv_asm.proofs.LabelTables.{label_step, labels_rise}
use Rattle.rv_asm.proofs.ParsedLines.{at_line, past_lines, labels_end}
use Rattle.rv_asm.proofs.program.label_table.Goals as goal

pub loop-parsed-preserved : goal.loop-parsed-preserved
loop-parsed-preserved c =
    let lines = c.args.lines.now in
    let i = c.loop-parsed.parsed-index in
    let left = at_line lines i c.parsed-item.result c.loop-parsed-test.true c.parsed-item.is in
    record {
      labels = label_step (places_of c.loop-parsed.rows.items) (places_of c.add_label.new.rows.items) (labels_from 1 0 (texts_of lines)) c.loop-parsed.number c.loop-parsed.words c.in_ok-words.words c.parsed-item.result.line.now (texts_of (drop i lines)) (texts_of (drop (i + 1) lines)) left c.in_ok-words.ensures.words c.loop-parsed.invariant.labels c.in_ok-words.ensures.label;
      number = ap (λ (k : ℕ). k + 1) c.loop-parsed.invariant.number;
    }

pub sorted-requires : goal.sorted-requires
sorted-requires c =
    let lines = c.args.lines.now in
    let none = past_lines lines c.loop-parsed.parsed-index c.loop-parsed-test.false in
    rw (labels_end (places_of c.loop-parsed.rows.items) (labels_from 1 0 (texts_of lines)) c.loop-parsed.number c.loop-parsed.words (texts_of (drop c.loop-parsed.parsed-index lines)) none c.loop-parsed.invariant.labels) (labels_rise 1 0 (texts_of lines))

pub returns-clause-each : goal.returns-clause-each
returns-clause-each c =
    let lines = c.args.lines.now in
    let none = past_lines lines c.loop-parsed.parsed-index c.loop-parsed-test.false in
    rw (← labels_end (places_of c.loop-parsed.rows.items) (labels_from 1 0 (texts_of lines)) c.loop-parsed.number c.loop-parsed.words (texts_of (drop c.loop-parsed.parsed-index lines)) none c.loop-parsed.invariant.labels) c.sorted.ensures.each

pub returns-clause-labels : goal.returns-clause-labels
returns-clause-labels c =
    let lines = c.args.lines.now in
    let none = past_lines lines c.loop-parsed.parsed-index c.loop-parsed-test.false in
    rw (← labels_end (places_of c.loop-parsed.rows.items) (labels_from 1 0 (texts_of lines)) c.loop-parsed.number c.loop-parsed.words (texts_of (drop c.loop-parsed.parsed-index lines)) none c.loop-parsed.invariant.labels) c.sorted.ensures.same
