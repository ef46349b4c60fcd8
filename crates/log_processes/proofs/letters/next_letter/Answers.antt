use Rattle.std.proofs.Common.{ℕ, ◌∙◌, Option, Some, None, subst, sym}
use Rattle.t32_base.specs.declared.letter.Letter.{Letter}
use Rattle.proc_state.specs.State.{state_of}
use Rattle.bus_msg.specs.declared.entry.Entry.{Entry}
use Rattle.log_processes.specs.Letters.{AnswersLetter, Writes}
use Rattle.log_processes.specs.Sending.{Leads}
use Rattle.log_processes.proofs.Mailing.{letter_follows, letter_leads, letter_refused, letter_unmade, letter_unsent}
use Rattle.log_processes.proofs.letters.next_letter.Goals as goal

pub returns-in_default-clause-decides : goal.returns-in_default-clause-decides
returns-in_default-clause-decides c =
    letter_unsent c.args.front.now c.args.limits c.args.head c.args.kept (state_of c.args.process.now) c.args.told.now (sym c.home_may.ensures ∙ c.in_default.is)

pub returns-in_default-2-clause-decides : goal.returns-in_default-2-clause-decides
returns-in_default-2-clause-decides c =
    letter_unmade c.args.front.now c.args.limits c.args.head c.args.kept (state_of c.args.process.now) c.args.told.now (state_of c.letter_by.new.process)
    (subst (λ (n : ℕ). Writes n (state_of c.args.process.now) None (state_of c.letter_by.new.process)) c.steps_upto-steps.ensures
    (subst (λ (o : Option Letter). Writes c.steps_upto-steps.result (state_of c.args.process.now) o (state_of c.letter_by.new.process)) c.in_default-2.is c.in_ok-letter.ensures))

pub returns-then-not-letter_may-clause-decides : goal.returns-then-not-letter_may-clause-decides
returns-then-not-letter_may-clause-decides c =
    letter_refused c.args.front.now c.args.limits c.args.head c.args.kept (state_of c.args.process.now) c.args.told.now c.in-Some-2.letter (state_of c.letter_by.new.process)
    (subst (λ (n : ℕ). Writes n (state_of c.args.process.now) (Some c.in-Some-2.letter) (state_of c.letter_by.new.process)) c.steps_upto-steps.ensures
    (subst (λ (o : Option Letter). Writes c.steps_upto-steps.result (state_of c.args.process.now) o (state_of c.letter_by.new.process)) c.in-Some-2.is c.in_ok-letter.ensures))
    (sym c.letter_may.ensures ∙ c.if-not-letter_may.true)

pub returns-clause-decides : goal.returns-clause-decides
returns-clause-decides c =
    subst (λ (e : Entry). AnswersLetter c.args.front.now c.args.limits c.args.head c.args.kept (state_of c.args.process.now) c.args.told.now (Some e)) (sym c.entry_at.ensures)
    (letter_follows c.args.front.now c.args.limits c.args.head c.args.kept (state_of c.args.process.now) c.args.told.now c.in-Some.home c.in-Some-2.letter (state_of c.letter_by.new.process) (sym c.home_may.ensures ∙ c.in-Some.is)
    (subst (λ (n : ℕ). Writes n (state_of c.args.process.now) (Some c.in-Some-2.letter) (state_of c.letter_by.new.process)) c.steps_upto-steps.ensures
    (subst (λ (o : Option Letter). Writes c.steps_upto-steps.result (state_of c.args.process.now) o (state_of c.letter_by.new.process)) c.in-Some-2.is c.in_ok-letter.ensures))
    (sym c.letter_may.ensures ∙ c.if-not-letter_may.false))

pub returns-clause-leads : goal.returns-clause-leads
returns-clause-leads c =
    subst (λ (e : Entry). Leads c.args.front.now c.args.limits c.args.head.pid c.args.kept (state_of c.args.process.now) e (state_of c.letter_by.new.process)) (sym c.entry_at.ensures)
    (letter_leads c.args.front.now c.args.limits c.args.head c.args.kept (state_of c.args.process.now) c.args.told.now c.in-Some.home c.in-Some-2.letter (state_of c.letter_by.new.process)
    (subst (λ (n : ℕ). Writes n (state_of c.args.process.now) (Some c.in-Some-2.letter) (state_of c.letter_by.new.process)) c.steps_upto-steps.ensures
    (subst (λ (o : Option Letter). Writes c.steps_upto-steps.result (state_of c.args.process.now) o (state_of c.letter_by.new.process)) c.in-Some-2.is c.in_ok-letter.ensures)))
