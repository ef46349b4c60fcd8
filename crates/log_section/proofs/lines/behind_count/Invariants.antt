use Rattle.std.proofs.Common.{◌≡◌, ◌-◌, map}
use Rattle.log_section.specs.Lines.{behind_one, behind_count}
use Rattle.log_section.proofs.lines.behind_count.Given as goal

abbrev pub invariant-loop : goal.invariant-loop
invariant-loop l =
    let part = behind_one (map (λ s. s.now) l.shapes) in
    behind_count part (l.count - l.counter) l.rest ≡ behind_count part l.count l.text
