use Rattle.std.proofs.Common.{◌≡◌, drop}
use Rattle.log_section.specs.Lines.{past}
use Rattle.log_section.proofs.lines.behind_line.Given as goal

abbrev pub invariant-loop-sign : goal.invariant-loop-sign
invariant-loop-sign l = past (drop l.sign-index l.shape) (l.last, l.rest) ≡ past l.shape (0, l.text)
