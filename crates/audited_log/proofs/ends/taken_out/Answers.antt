use Rattle.std.proofs.Common.{◌≡◌, ℕ, refl, sym, subst, Option}
use Rattle.proc_state.specs.declared.process.Process.{Process}
use Rattle.audited_process.specs.declared.audited.Audited.{Audited}
use Rattle.audited_log.specs.Processes.{process_in}
use Rattle.audited_log.proofs.TakenOut.{AreMade, made_all, made_more, made_none, nothing_left}
use Rattle.audited_log.proofs.ends.taken_out.Goals as goal

abbrev Made : ℕ → Option Audited → Option Process → Type 0
Made n a s = s ≡ process_in a

pub loop-pid-init : goal.loop-pid-init
loop-pid-init c = subst (AreMade Made c.args.kept.now.entries c.args.kept.now.entries) (sym c.new-processes.ensures.empty) (made_none Made c.args.kept.now.entries (λ n. refl))

pub loop-pid-preserved : goal.loop-pid-preserved
loop-pid-preserved c =
    made_more Made c.args.kept.now.entries c.loop-pid.kept.entries c.pop_first.new.self.entries c.loop-pid.processes.entries c.insert.new.self.entries c.in-Some.pid c.in-Some.audited
    c.in-Some.audited.process
    c.loop-pid.invariant c.in-Some.ensures.value c.in-Some.ensures.updates.0 c.in_ok-insert.ensures.updates.0 (λ there. refl)

pub returns : goal.returns
returns c = λ p.
    made_all Made c.args.kept.now.entries c.loop-pid.kept.entries c.loop-pid.processes.entries (nothing_left c.loop-pid.kept.entries c.in_default.ensures.variant.1) c.loop-pid.invariant p.0
