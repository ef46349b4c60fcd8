use Rattle.std.proofs.Common.{refl, Option}
use Rattle.std.specs.Option.{IfSome}
use Rattle.proc_state.specs.State.{state_of}
use Rattle.bus_msg.specs.declared.entry.Entry.{Entry}
use Rattle.log_processes.specs.Letters.{AnswersLetter}
use Rattle.log_processes.specs.Sending.{Leads}
use Rattle.audited_process.specs.declared.audited.Audited.{Audited}
use Rattle.audited_process.specs.Lines.{KeepsAudited, LeadsTo}
use Rattle.audited_process.proofs.LineLeads.{both_if_ok, letter_leads}
use Rattle.audited_process.proofs.lines.letter.Goals as goal

pub returns-clause-leads : goal.returns-clause-leads
returns-clause-leads c =
    let a = c.args.audited.now in
    let new : Audited = record a { process = c.next_letter.new.process } in
    both_if_ok c.next_letter.result (AnswersLetter c.args.front.now c.args.limits c.args.head c.args.kept (state_of a.process) c.args.told.now)
    (λ (o : Option Entry). IfSome o (λ (e : Entry). Leads c.args.front.now c.args.limits c.args.head.pid c.args.kept (state_of a.process) e (state_of new.process)))
    (λ (o : Option Entry). IfSome o (LeadsTo (KeepsAudited c.args.front.now c.args.limits c.args.head.pid a c.args.kept) c.args.head.pid new))
    (letter_leads c.args.front.now c.args.limits c.args.head a c.args.kept c.args.told.now new (refl, refl)) c.next_letter.ensures.decides c.next_letter.ensures.leads
