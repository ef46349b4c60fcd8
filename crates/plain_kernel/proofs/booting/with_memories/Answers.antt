use Rattle.std.proofs.Common.{ℕ, List, ◌∙◌, ◌++◌, ap, append-nil, append_assoc, sym}
use Rattle.proc_state.specs.State.{ProcState}
use Rattle.plain_kernel.specs.Starts.{starts_in}
use Rattle.plain_kernel.proofs.Starts.{fresh_more, loads_alike, made_more}
use Rattle.plain_kernel.proofs.booting.with_memories.Goals as goal

pub loop-pid-preserved : goal.loop-pid-preserved
loop-pid-preserved c =
    let s : ℕ × ProcState = (c.in-Some.pid, c.in-Some.start) in
    let ordered = rw c.in-Some.ensures.steps at c.loop-pid.invariant.ordered in
    record {
      all = rw append_assoc (rw c.in-Some.ensures.steps at c.loop-pid.invariant.all);
      ordered = rw append_assoc ordered;
      states = made_more _ _ c.loop-pid.yielded s c.next.new.self c.in_ok-process.process ordered c.loop-pid.invariant.states c.in_ok-insert.ensures.entries c.in_ok-process.ensures.state;
      fresh = fresh_more _ _ c.loop-pid.yielded s c.next.new.self c.in_ok-process.process ordered c.loop-pid.invariant.states c.in_ok-insert.ensures.entries c.loop-pid.invariant.fresh c.in_ok-process.ensures.fresh;
    }

-- the same where a process was there, which is none
pub loop-pid-preserved-in_ok-insert : goal.loop-pid-preserved-in_ok-insert
loop-pid-preserved-in_ok-insert c =
    let s : ℕ × ProcState = (c.in-Some.pid, c.in-Some.start) in
    let ordered = rw c.in-Some.ensures.steps at c.loop-pid.invariant.ordered in
    record {
      all = rw append_assoc (rw c.in-Some.ensures.steps at c.loop-pid.invariant.all);
      ordered = rw append_assoc ordered;
      states = made_more _ _ c.loop-pid.yielded s c.next.new.self c.in_ok-process.process ordered c.loop-pid.invariant.states c.in_ok-insert.ensures.entries c.in_ok-process.ensures.state;
      fresh = fresh_more _ _ c.loop-pid.yielded s c.next.new.self c.in_ok-process.process ordered c.loop-pid.invariant.states c.in_ok-insert.ensures.entries c.loop-pid.invariant.fresh c.in_ok-process.ensures.fresh;
    }

pub returns-clause-load : goal.returns-clause-load
returns-clause-load c =
    let seen : List (ℕ × ProcState) = c.loop-pid.yielded in
    loads_alike c.loop-pid.processes.entries c.args.starts.entries
    (c.loop-pid.invariant.states ∙ ap starts_in (sym (append-nil seen) ∙ sym (ap (λ (es : List (ℕ × ProcState)). seen ++ es) c.in-None.ensures.steps.0) ∙ c.loop-pid.invariant.all))
