use Rattle.std.proofs.Common.{refl, Option}
use Rattle.std.specs.Option.{IfSome}
use Rattle.proc_state.specs.State.{state_of}
use Rattle.bus_msg.specs.declared.entry.Entry.{Entry}
use Rattle.log_cuts.specs.Syncs.{AnswersSync, LeadsToCut}
use Rattle.audited_process.specs.declared.audited.Audited.{Audited}
use Rattle.audited_process.specs.Lines.{KeepsPaged, LeadsTo}
use Rattle.audited_process.proofs.LineLeads.{both_if_ok, sync_leads}
use Rattle.audited_process.proofs.lines.sync.Goals as goal

pub returns-clause-leads : goal.returns-clause-leads
returns-clause-leads g c =
    let a = c.args.audited.now in
    let new : Audited = record a { process = c.next_sync.new.process; ahead = c.next_sync.new.ahead } in
    both_if_ok c.next_sync.result (AnswersSync c.args.front.now c.args.limits c.args.head c.args.kept (a.begun).start c.args.pager.now (state_of a.process) c.args.took)
    (λ (o : Option Entry). IfSome o (λ (e : Entry). LeadsToCut c.args.front.now c.args.limits c.args.head.pid c.args.kept (a.begun).start c.args.pager.now (state_of a.process) e
    (state_of new.process)))
    (λ (o : Option Entry). IfSome o (LeadsTo (KeepsPaged c.args.front.now c.args.limits c.args.head.pid a c.args.kept c.args.pager.now) c.args.head.pid new))
    (sync_leads c.args.front.now c.args.limits c.args.head a c.args.kept c.args.pager.now c.args.took new (refl, refl)) c.next_sync.ensures.decides c.next_sync.ensures.leads
