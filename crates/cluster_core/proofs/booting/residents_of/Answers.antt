use Rattle.std.proofs.Common.{ℕ, [], ◌∷◌, ◌++◌, sym, ap, ◌∙◌, subst, append_assoc}
use Rattle.proc_state.specs.State.{ProcState}
use Rattle.plain_kernel.specs.Maps.{pid_of}
use Rattle.plain_kernel.specs.Starts.{starts_in}
use Rattle.cluster_core.specs.Booting.{RunFrom}
use Rattle.residents.specs.Changed.{with_more}
use Rattle.residents.specs.Held.{Held}
use Rattle.cluster_core.proofs.boot.Homing.{more_run, not_here}
use Rattle.cluster_core.proofs.booting.residents_of.Goals as goal

pub add-requires : goal.add-requires
add-requires c =
    let e : ℕ × ProcState = (c.in-Some.pid, c.in-Some.start) in
    not_here c.args.number c.loop-pid.yielded e c.next.new.self c.loop-pid.here.here (rw c.in-Some.ensures.steps at c.loop-pid.invariant.ordered) c.loop-pid.invariant.own

pub loop-pid-preserved-in-Continue-branch-2 : goal.loop-pid-preserved-in-Continue-branch-2
loop-pid-preserved-in-Continue-branch-2 c =
    let e : ℕ × ProcState = (c.in-Some.pid, c.in-Some.start) in
    let ordered = rw c.in-Some.ensures.steps at c.loop-pid.invariant.ordered in
    record {
      all = rw append_assoc (rw c.in-Some.ensures.steps at c.loop-pid.invariant.all);
      ordered = rw append_assoc ordered;
      duty = c.in_ok-add.ensures.duty ∙ c.loop-pid.invariant.duty;
      own = subst (RunFrom (starts_in (c.loop-pid.yielded ++ e ∷ [])) c.args.number) (sym (c.in_ok-add.ensures.here ∙ ap (λ (h : Held). with_more (pid_of e.0) h c.loop-pid.here.here) c.running.ensures))
          (more_run c.args.number c.loop-pid.yielded e c.next.new.self c.loop-pid.here.here ordered c.loop-pid.invariant.own c.in_ok-process.process (sym c.is_pid_at.ensures ∙ c.if-is_pid_at.true) c.in_ok-process.ensures.state c.in_ok-process.ensures.fresh);
    }
