use Rattle.std.proofs.Common.{ℕ, sym, subst, Option}
use Rattle.proc_state.specs.declared.process.Process.{Process}
use Rattle.audited_process.specs.declared.audited.Audited.{Audited}
use Rattle.audited_log.proofs.Starting.{IsStarted, started_are}
use Rattle.audited_log.proofs.TakenOut.{AreMade, made_all, made_more, made_none, nothing_left}
use Rattle.audited_log.proofs.processes.start.Goals as goal

abbrev Made : ℕ → Option Process → Option Audited → Type 0
Made n s a = IsStarted s a

pub loop-pid-init : goal.loop-pid-init
loop-pid-init c = subst (AreMade Made c.in_ok-roots.roots.entries c.in_ok-roots.roots.entries) (sym c.new-processes.ensures.empty) (made_none Made c.in_ok-roots.roots.entries (λ n. tt))

pub loop-pid-preserved : goal.loop-pid-preserved
loop-pid-preserved c =
    made_more Made c.in_ok-roots.roots.entries c.loop-pid.roots.entries c.pop_first.new.self.entries c.loop-pid.processes.entries c.insert.new.self.entries c.in-Some.pid c.in-Some.process
    c.in_ok-root.root
    c.loop-pid.invariant c.in-Some.ensures.value c.in-Some.ensures.updates.0 c.in_ok-insert.ensures.updates.0 (λ there. (c.in_ok-root.ensures.audited, c.in_ok-root.ensures.ahead))

pub loop-pid-preserved-in_ok-insert : goal.loop-pid-preserved-in_ok-insert
loop-pid-preserved-in_ok-insert c =
    made_more Made c.in_ok-roots.roots.entries c.loop-pid.roots.entries c.pop_first.new.self.entries c.loop-pid.processes.entries c.insert.new.self.entries c.in-Some.pid c.in-Some.process
    c.in_ok-root.root
    c.loop-pid.invariant c.in-Some.ensures.value c.in-Some.ensures.updates.0 c.in_ok-insert.ensures.updates.0 (λ there. (c.in_ok-root.ensures.audited, c.in_ok-root.ensures.ahead))

pub returns : goal.returns
returns c =
    started_are c.args.system.now c.in_ok-roots.roots.entries c.loop-pid.processes.entries c.requires.valid c.in_ok-roots.ensures.states
    (made_all Made c.in_ok-roots.roots.entries c.loop-pid.roots.entries c.loop-pid.processes.entries (nothing_left c.loop-pid.roots.entries c.in_default.ensures.variant.1) c.loop-pid.invariant)
