use Rattle.std.proofs.Common.{rules, ◌≡◌, sym, ap, ◌∙◌}
use Rattle.entry_lines.specs.Guess.{guess_of}
use Rattle.entry_lines.specs.Text.{text_of}
use Rattle.entry_lines.proofs.ReadBack.{guess_back}
use Rattle.entry_lines.proofs.reading.read_told.Goals as goal

pub returns-then-eq-clause-read : goal.returns-then-eq-clause-read
returns-then-eq-clause-read c = λ t h e.
    let same : c.in_ok-told.told ≡ t = c.in_ok-told.ensures ∙ ap guess_of e ∙ guess_back t h in
    search (rules, same)

pub returns-else-eq-clause-read : goal.returns-else-eq-clause-read
returns-else-eq-clause-read c = λ t h e.
    let same : c.in_ok-told.told ≡ t = c.in_ok-told.ensures ∙ ap guess_of e ∙ guess_back t h in
    let line : c.args.line.now ≡ text_of c.in_ok-told.told = e ∙ ap text_of (sym same) in
    search (rules, line, c.in_ok-text.ensures, c.if-eq.ensures)
