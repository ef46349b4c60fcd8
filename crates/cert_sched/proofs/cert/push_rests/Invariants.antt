-- The runs that are put so far.
use Rattle.std.proofs.Common.{◌≡◌, ◌++◌, take}
use Rattle.cert_sched.specs.CertAfter.{steps_of, runs_to}
use Rattle.cert_sched.proofs.cert.push_rests.Given as goal

abbrev pub invariant-loop-pid : goal.invariant-loop-pid
invariant-loop-pid l = l.items.items ≡ l.fn.items.items ++ runs_to (steps_of l.done.entries) (take l.pid-index l.rests)
