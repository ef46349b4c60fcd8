use Rattle.audited_log.specs.State.{IsOfSomeLog}
use Rattle.audit_tests.proofs.walked.take_all.Given as goal

-- what is kept is that of some log
abbrev pub invariant-loop-line : goal.invariant-loop-line
invariant-loop-line l = IsOfSomeLog l.state
