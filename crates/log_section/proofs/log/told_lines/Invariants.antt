use Rattle.std.proofs.Common.{◌≡◌, ◌-◌}
use Rattle.log_section.specs.Form.{told_lines}
use Rattle.log_section.proofs.Walks.{gathered}
use Rattle.log_section.proofs.log.told_lines.Given as goal

abbrev pub invariant-loop : goal.invariant-loop
invariant-loop l = gathered l.found (told_lines (l.count - l.counter) l.rest) ≡ told_lines l.count l.text
