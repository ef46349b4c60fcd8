use Rattle.std.proofs.Common.{◌≡◌, ◌-◌, length, map}
use Rattle.log_section.specs.Lines.{behind_one, behind_most}
use Rattle.log_section.proofs.lines.behind_all.Given as goal

abbrev pub invariant-loop : goal.invariant-loop
invariant-loop l =
    let part = behind_one (map (λ s. s.now) l.shapes) in
    behind_most part (length l.text - l.counter) l.rest ≡ behind_most part (length l.text) l.text
