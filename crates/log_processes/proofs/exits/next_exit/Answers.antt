use Rattle.std.proofs.Common.{ℕ, ◌∙◌, Option, Some, None, subst, sym}
use Rattle.t32_base.specs.declared.process.End.{End}
use Rattle.proc_state.specs.State.{state_of}
use Rattle.bus_msg.specs.declared.entry.Entry.{Entry}
use Rattle.log_processes.specs.Exits.{AnswersExit, Exits}
use Rattle.log_processes.specs.Sending.{Leads}
use Rattle.log_processes.proofs.Exiting.{exit_follows, exit_leads, exit_refused, exit_unmade, exit_unsent}
use Rattle.log_processes.proofs.exits.next_exit.Goals as goal

pub returns-in_default-clause-decides : goal.returns-in_default-clause-decides
returns-in_default-clause-decides c =
    exit_unsent c.args.front.now c.args.limits c.args.head c.args.kept (state_of c.args.process.now) c.args.told (sym c.home_may.ensures ∙ c.in_default.is)

pub returns-in_default-2-clause-decides : goal.returns-in_default-2-clause-decides
returns-in_default-2-clause-decides c =
    exit_unmade c.args.front.now c.args.limits c.args.head c.args.kept (state_of c.args.process.now) c.args.told (state_of c.exit_by.new.process)
    (subst (λ (n : ℕ). Exits n (state_of c.args.process.now) None (state_of c.exit_by.new.process)) c.steps_upto-steps.ensures
    (subst (λ (o : Option End). Exits c.steps_upto-steps.result (state_of c.args.process.now) o (state_of c.exit_by.new.process)) c.in_default-2.is c.in_ok-end.ensures))

pub returns-then-not-exit_may-clause-decides : goal.returns-then-not-exit_may-clause-decides
returns-then-not-exit_may-clause-decides c =
    exit_refused c.args.front.now c.args.limits c.args.head c.args.kept (state_of c.args.process.now) c.args.told c.in-Some-2.end (state_of c.exit_by.new.process)
    (subst (λ (n : ℕ). Exits n (state_of c.args.process.now) (Some c.in-Some-2.end) (state_of c.exit_by.new.process)) c.steps_upto-steps.ensures
    (subst (λ (o : Option End). Exits c.steps_upto-steps.result (state_of c.args.process.now) o (state_of c.exit_by.new.process)) c.in-Some-2.is c.in_ok-end.ensures))
    (sym c.exit_may.ensures ∙ c.if-not-exit_may.true)

pub returns-clause-decides : goal.returns-clause-decides
returns-clause-decides c =
    subst (λ (e : Entry). AnswersExit c.args.front.now c.args.limits c.args.head c.args.kept (state_of c.args.process.now) c.args.told (Some e)) (sym c.entry_at.ensures)
    (exit_follows c.args.front.now c.args.limits c.args.head c.args.kept (state_of c.args.process.now) c.args.told c.in-Some.home c.in-Some-2.end (state_of c.exit_by.new.process) (sym c.home_may.ensures ∙ c.in-Some.is)
    (subst (λ (n : ℕ). Exits n (state_of c.args.process.now) (Some c.in-Some-2.end) (state_of c.exit_by.new.process)) c.steps_upto-steps.ensures
    (subst (λ (o : Option End). Exits c.steps_upto-steps.result (state_of c.args.process.now) o (state_of c.exit_by.new.process)) c.in-Some-2.is c.in_ok-end.ensures))
    (sym c.exit_may.ensures ∙ c.if-not-exit_may.false))

pub returns-clause-leads : goal.returns-clause-leads
returns-clause-leads c =
    subst (λ (e : Entry). Leads c.args.front.now c.args.limits c.args.head.pid c.args.kept (state_of c.args.process.now) e (state_of c.exit_by.new.process)) (sym c.entry_at.ensures)
    (exit_leads c.args.front.now c.args.limits c.args.head c.args.kept (state_of c.args.process.now) c.args.told c.in-Some.home c.in-Some-2.end (state_of c.exit_by.new.process)
    (subst (λ (n : ℕ). Exits n (state_of c.args.process.now) (Some c.in-Some-2.end) (state_of c.exit_by.new.process)) c.steps_upto-steps.ensures
    (subst (λ (o : Option End). Exits c.steps_upto-steps.result (state_of c.args.process.now) o (state_of c.exit_by.new.process)) c.in-Some-2.is c.in_ok-end.ensures)))
