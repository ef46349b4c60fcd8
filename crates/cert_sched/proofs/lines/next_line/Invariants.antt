use Rattle.std.proofs.Common.{◌≡◌, length}
use Rattle.cert_sched.specs.Lines.{kept_lines}
use Rattle.cert_sched.proofs.lines.next_line.Given as goal

abbrev pub invariant-loop-rest : goal.invariant-loop-rest
invariant-loop-rest l = kept_lines l.text ≡ kept_lines l.rest

abbrev pub decreases-loop-rest : goal.decreases-loop-rest
decreases-loop-rest l = length l.rest
