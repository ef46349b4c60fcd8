use Rattle.std.proofs.Common.{◌≡◌, ◌∙◌, None, length, ap, rules}
use Rattle.rv_asm.specs.Statement.{Code}
use Rattle.rv_asm.specs.Labels.{line_code}
use Rattle.rv_asm.specs.View.{seen}
use Rattle.rv_asm.specs.Program.{broken_by, is_undefined, too_far, target_of, address_after}
use Rattle.rv_asm.proofs.Reading.{reaches_label}
use Rattle.rv_asm.proofs.program.assemble_line.Goals as goal

pub push_words-requires-clause-defined : goal.push_words-requires-clause-defined
push_words-requires-clause-defined c =
    let line = c.args.parsed.now.line.now in
    let code : seen c.statement_or_nothing.result ≡ line_code line = search rules in
    let none : broken_by c.args.labels.now c.args.number (length c.args.words.now) line ≡ None = search rules in
    ap (λ (k : Code). is_undefined c.args.labels.now (target_of k)) code ∙ (reaches_label c.args.labels.now c.args.number (length c.args.words.now) line none).0

pub push_words-requires-clause-near : goal.push_words-requires-clause-near
push_words-requires-clause-near c =
    let line = c.args.parsed.now.line.now in
    let code : seen c.statement_or_nothing.result ≡ line_code line = search rules in
    let none : broken_by c.args.labels.now c.args.number (length c.args.words.now) line ≡ None = search rules in
    ap (λ (k : Code). too_far c.args.labels.now k (address_after (length c.args.words.now)) (target_of k)) code ∙ (reaches_label c.args.labels.now c.args.number (length c.args.words.now) line none).1
