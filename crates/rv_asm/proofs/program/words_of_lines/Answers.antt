use Rattle.std.proofs.Common.{◌≡◌, ℕ, ◌+◌, ◌++◌, None, length, drop, refl, sym, ◌∙◌, ap, rules}
use Rattle.rv_asm.specs.Labels.{labels_from, line_code}
use Rattle.rv_asm.specs.Parsed.{texts_of}
use Rattle.rv_asm.specs.Program.{reading_of_lines, broken_by, words_at, address_after}
use Rattle.rv_asm.proofs.LabelTables.{broken_same, words_same, own_step}
use Rattle.rv_asm.proofs.ParsedLines.{at_line, past_lines, reads_first, reads_last, own_first}
use Rattle.rv_asm.proofs.Reading.{longer, line_step, line_refused_by}
use Rattle.rv_asm.proofs.program.words_of_lines.Goals as goal

pub loop-parsed-init : goal.loop-parsed-init
loop-parsed-init c =
    let texts = texts_of c.args.lines.now in
    record {
      reads = reads_first c.new-words.result texts c.new-words.ensures;
      own = own_first c.args.labels.now c.new-words.result texts c.new-words.ensures c.requires.each;
      number = refl;
    }

pub assemble_line-requires-clause-own : goal.assemble_line-requires-clause-own
assemble_line-requires-clause-own c =
    let items = c.args.lines.now in
    let i = c.loop-parsed.parsed-index in
    let left = at_line items i c.parsed-item.result c.loop-parsed-test.true c.parsed-item.is in
    (own_step c.args.labels.now c.loop-parsed.number (length c.loop-parsed.words) c.parsed-item.result.line.now (texts_of (drop i items)) (texts_of (drop (i + 1) items)) left c.loop-parsed.invariant.own).0

pub loop-parsed-preserved : goal.loop-parsed-preserved
loop-parsed-preserved c =
    let own_labels = c.args.labels.now in
    let labels = labels_from 1 0 (texts_of c.args.lines.now) in
    let words = c.loop-parsed.words in
    let number = c.loop-parsed.number in
    let items = c.args.lines.now in
    let i = c.loop-parsed.parsed-index in
    let line = c.parsed-item.result.line.now in
    let left = at_line items i c.parsed-item.result c.loop-parsed-test.true c.parsed-item.is in
    let none : broken_by labels number (length words) line ≡ None = sym (broken_same own_labels labels c.requires.same number (length words) line) ∙ c.in_ok-assemble_line.ensures.answer in
    let added : c.assemble_line.new.words ≡ words ++ words_at labels (address_after (length words)) (line_code line) =
    c.in_ok-assemble_line.ensures.words ∙ ap (λ (t : _). words ++ t) (words_same own_labels labels c.requires.same (address_after (length words)) (line_code line)) in
    record {
      reads = line_step labels (reading_of_lines (texts_of items)) words c.assemble_line.new.words number line (texts_of (drop i items)) (texts_of (drop (i + 1) items)) left c.loop-parsed.invariant.reads none added;
      own = rw (longer labels words c.assemble_line.new.words line added) ((own_step own_labels number (length words) line (texts_of (drop i items)) (texts_of (drop (i + 1) items)) left c.loop-parsed.invariant.own).1);
      number = ap (λ (k : ℕ). k + 1) c.loop-parsed.invariant.number;
    }

pub returns-in_err-assemble_line : goal.returns-in_err-assemble_line
returns-in_err-assemble_line c =
    let own_labels = c.args.labels.now in
    let labels = labels_from 1 0 (texts_of c.args.lines.now) in
    let words = c.loop-parsed.words in
    let items = c.args.lines.now in
    let i = c.loop-parsed.parsed-index in
    let line = c.parsed-item.result.line.now in
    let left = at_line items i c.parsed-item.result c.loop-parsed-test.true c.parsed-item.is in
    let same = broken_same own_labels labels c.requires.same c.loop-parsed.number (length words) line in
    let refuses = line_refused_by labels (reading_of_lines (texts_of items)) words c.loop-parsed.number line (texts_of (drop i items)) (texts_of (drop (i + 1) items)) c.in_err-assemble_line.field-0.0 (broken_by own_labels c.loop-parsed.number (length words) line) left c.loop-parsed.invariant.reads same c.in_err-assemble_line.ensures.answer in
    search (rules, refuses)

pub returns : goal.returns
returns c =
    let items = c.args.lines.now in
    let i = c.loop-parsed.parsed-index in
    reads_last (labels_from 1 0 (texts_of items)) (reading_of_lines (texts_of items)) c.loop-parsed.words c.loop-parsed.number (texts_of (drop i items)) (past_lines items i c.loop-parsed-test.false) c.loop-parsed.invariant.reads
