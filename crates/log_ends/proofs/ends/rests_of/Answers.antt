use Rattle.std.proofs.Common.{ℕ, Option, [], ◌∷◌, ◌++◌, sym, refl, subst}
use Rattle.proc_state.specs.declared.process.Process.{Process}
use Rattle.proc_state.specs.State.{state_of}
use Rattle.plain_kernel.specs.Maps.{pid_of}
use Rattle.log_ends.specs.Ends.{EachRests, RestsOr}
use Rattle.log_ends.proofs.Ending.{all_more, one_more, sorted_more}
use Rattle.log_ends.proofs.ends.rests_of.Goals as goal

pub processes-preserved : goal.processes-preserved
processes-preserved c =
    let e : ℕ × Process = (c.in-Some.pid, c.in-Some.process) in
    let i = c.processes.invariant in
    record {
      taken = i.taken ++ e ∷ [];
      all = all_more i.taken c.processes.processes.entries c.pop_first.new.self.entries c.args.processes.now.entries e c.in-Some.ensures.removal i.all;
      ordered = λ sorted. i.ordered (sorted_more c.processes.processes.entries c.pop_first.new.self.entries e c.in-Some.ensures.removal c.in-Some.ensures.all_above sorted);
      rest = subst (EachRests (i.taken ++ e ∷ [])) (sym c.in_ok-push-in-Some-2.ensures.ok)
          (one_more i.taken c.processes.rests e (pid_of c.in-Some.pid, c.in-Some-2.steps) i.rest refl (subst (λ (o : Option ℕ). RestsOr (state_of c.in-Some.process) o) c.in-Some-2.is c.in_ok-steps.ensures));
    }

pub returns-in-None-clause-ordered : goal.returns-in-None-clause-ordered
returns-in-None-clause-ordered c =
    c.processes.invariant.ordered
    (sorted_more c.processes.processes.entries c.pop_first.new.self.entries (c.in-Some.pid, c.in-Some.process) c.in-Some.ensures.removal c.in-Some.ensures.all_above c.in-Some.ensures.ordered)
