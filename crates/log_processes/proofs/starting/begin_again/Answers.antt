use Rattle.std.proofs.Common.{ℕ, [], ◌∷◌, ◌++◌, subst, sym}
use Rattle.proc_state.specs.State.{state_of}
use Rattle.log_processes.specs.Sending.{KeepsProcess}
use Rattle.log_processes.proofs.Beside.{begins_again}
use Rattle.log_processes.proofs.starting.begin_again.Goals as goal

pub returns-clause-keeps : goal.returns-clause-keeps
returns-clause-keeps c = λ system log e p begins there.
    subst (λ (n : ℕ). KeepsProcess p (state_of c.args.process.now) n c.letters_waiting-kept.result system (log ++ e ∷ [])) (sym c.steps_made-kept.ensures)
    (subst (λ (n : ℕ). KeepsProcess p (state_of c.args.process.now) ((state_of c.args.process.now).small).steps n system (log ++ e ∷ [])) (sym c.letters_waiting-kept.ensures)
    (begins_again system log e p (state_of c.args.process.now) begins there))
