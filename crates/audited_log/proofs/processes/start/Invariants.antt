use Rattle.std.proofs.Common.{ℕ, length}
use Rattle.audited_log.proofs.Starting.{IsStarted}
use Rattle.audited_log.proofs.TakenOut.{AreMade}
use Rattle.audited_log.proofs.processes.start.Given as goal

-- what is kept of those that are taken out, and of no others yet
abbrev pub invariant-loop-pid : goal.invariant-loop-pid
invariant-loop-pid l = AreMade (λ (n : ℕ). IsStarted) l.initial.roots.entries l.roots.entries l.processes.entries

abbrev pub decreases-loop-pid : goal.decreases-loop-pid
decreases-loop-pid l = length l.roots.entries
