use Rattle.text_parts.proofs.Splitting.{Scanned}
use Rattle.log_section.specs.Lines.{is_other}
use Rattle.log_section.proofs.lines.cut_digits.Given as goal

abbrev pub invariant-loop-i : goal.invariant-loop-i
invariant-loop-i l = Scanned is_other l.text l.i
