use Rattle.std.proofs.Common.{refl, sym, subst, Option}
use Rattle.bus_msg.specs.declared.entry.Entry.{Entry}
use Rattle.cert_sched.specs.Legal.{MayStand}
use Rattle.entry_lines.specs.declared.told.Told.{Told}
use Rattle.entry_lines.specs.declared.told.ToldWhat.TheVariants.{Done}
use Rattle.log_audit.specs.Decides.{Decides}
use Rattle.log_ends.specs.Ends.{KeepsUnended}
use Rattle.audited_log.specs.State.{IsStateOf}
use Rattle.audited_log.proofs.Ending.{done_leads, unended_kept}
use Rattle.audited_log.proofs.OneLaws.{decides_more}
use Rattle.audited_log.proofs.ends.answer.Goals as goal

pub returns-clause-decides : goal.returns-clause-decides
returns-clause-decides c =
    let state = c.args.state.now in
    let told : Told = record { place = c.args.place; by = c.args.by; what = Done } in
    subst (λ (o : Option Entry). Decides MayStand (λ system log. IsStateOf system log state) told o) (sym c.childless.ensures.entry)
    (decides_more (KeepsUnended (state.common).front c.in_ok-processes.processes.entries) (λ system log. IsStateOf system log state) told
    (unended_kept state c.args.place c.in_ok-processes.processes.entries c.requires.next c.in_ok-processes.ensures) c.in_ok-entry.entry c.in_ok-entry.ensures)

pub returns-clause-leads : goal.returns-clause-leads
returns-clause-leads c =
    let state = c.args.state.now in
    let told : Told = record { place = c.args.place; by = c.args.by; what = Done } in
    done_leads state told c.taken_out.new.kept refl c.childless.result c.childless.ensures.child
    (subst (λ (o : Option Entry). Decides MayStand (λ system log. IsStateOf system log state) told o) (sym c.childless.ensures.entry)
    (decides_more (KeepsUnended (state.common).front c.in_ok-processes.processes.entries) (λ system log. IsStateOf system log state) told
    (unended_kept state c.args.place c.in_ok-processes.processes.entries c.requires.next c.in_ok-processes.ensures) c.in_ok-entry.entry c.in_ok-entry.ensures))
