use Rattle.std.proofs.Common.{ℕ, ◌≡◌, length, Option}
use Rattle.proc_state.specs.declared.process.Process.{Process}
use Rattle.audited_process.specs.declared.audited.Audited.{Audited}
use Rattle.audited_log.specs.Processes.{process_in}
use Rattle.audited_log.proofs.TakenOut.{AreMade}
use Rattle.audited_log.proofs.ends.taken_out.Given as goal

-- the processes of those that are taken out, and no others yet
abbrev pub invariant-loop-pid : goal.invariant-loop-pid
invariant-loop-pid l = AreMade (λ (n : ℕ) (a : Option Audited) (s : Option Process). s ≡ process_in a) l.fn.kept.entries l.kept.entries l.processes.entries

abbrev pub decreases-loop-pid : goal.decreases-loop-pid
decreases-loop-pid l = length l.kept.entries
