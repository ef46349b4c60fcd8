use Rattle.std.proofs.Common.{◌-◌}
use Rattle.cert_sched.specs.Lines.{kept_lines}
use Rattle.cert_sched.specs.Reading.{reading_from}
use Rattle.cert_sched.proofs.Counting.{ReadsOn}
use Rattle.cert_sched.proofs.reading.read_lines.Given as goal

abbrev pub invariant-loop-index : goal.invariant-loop-index
invariant-loop-index l = ReadsOn (reading_from 0 l.count (kept_lines l.text)) l.items l.index (l.count - l.index) (kept_lines l.rest)
