use Rattle.std.proofs.Common.{refl, Option}
use Rattle.std.specs.Option.{IfSome}
use Rattle.proc_state.specs.State.{state_of}
use Rattle.bus_msg.specs.declared.entry.Entry.{Entry}
use Rattle.log_renewals.specs.Fresh.{AnswersFresh, LeadsToRenewal}
use Rattle.audited_process.specs.declared.audited.Audited.{Audited}
use Rattle.audited_process.specs.Lines.{KeepsPaged, LeadsTo}
use Rattle.audited_process.proofs.LineLeads.{both_if_ok, fresh_leads}
use Rattle.audited_process.proofs.lines.fresh.Goals as goal

pub returns-clause-leads : goal.returns-clause-leads
returns-clause-leads g c =
    let a = c.args.audited.now in
    let new : Audited = record a { process = c.next_fresh.new.process; ahead = c.next_fresh.new.ahead } in
    both_if_ok c.next_fresh.result (AnswersFresh c.args.front.now c.args.limits c.args.head c.args.others.now c.args.to c.args.kept c.args.pager.now (state_of a.process))
    (λ (o : Option Entry). IfSome o (λ (e : Entry). LeadsToRenewal c.args.front.now c.args.limits c.args.head.pid c.args.kept c.args.pager.now (state_of a.process) e (state_of new.process)))
    (λ (o : Option Entry). IfSome o (LeadsTo (KeepsPaged c.args.front.now c.args.limits c.args.head.pid a c.args.kept c.args.pager.now) c.args.head.pid new))
    (fresh_leads c.args.front.now c.args.limits c.args.head a c.args.kept c.args.pager.now c.args.others.now c.args.to new (refl, refl)) c.next_fresh.ensures.decides c.next_fresh.ensures.leads
