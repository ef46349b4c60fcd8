use Rattle.std.proofs.Common.{refl, Option, subst, sym}
use Rattle.std.specs.Option.{IfSome}
use Rattle.bus_msg.specs.declared.entry.Entry.{Entry}
use Rattle.cert_sched.specs.Legal.{MayStand}
use Rattle.entry_lines.specs.declared.told.Told.{Told}
use Rattle.entry_lines.specs.declared.told.ToldWhat.TheVariants.{Sync}
use Rattle.log_audit.specs.Decides.{Decides}
use Rattle.audited_process.specs.Lines.{KeepsPaged, LeadsTo}
use Rattle.audited_log.specs.One.{KeepsOne}
use Rattle.audited_log.proofs.Telling.{itself}
use Rattle.audited_log.proofs.OneLaws.{paged_kept, decides_more, leads_one, steps_led}
use Rattle.audited_log.proofs.cuts.answer.Goals as goal

abbrev told : goal.After-childless → Told
told c = record { place = c.args.head.place; by = c.args.head.by; what = Sync (c.args.head.pid).0 c.args.head.at c.args.took }

decides : (c : goal.After-childless) → Decides MayStand (KeepsOne c.args.common.now c.args.head.pid c.args.audited.now) (told c) c.in-Ok.entry
decides c =
    let common = c.args.common.now in
    let p = c.args.head.pid in
    let a = c.args.audited.now in
    let kept = c.sender_of-kept.result in
    decides_more (KeepsPaged common.front common.limits p a kept common.pager) (KeepsOne common p a) (told c) (paged_kept common p a kept c.sender_of-kept.ensures) c.in-Ok.entry
    c.in-Ok.ensures.decides

pub returns-in-Ok-clause-decides : goal.returns-in-Ok-clause-decides
returns-in-Ok-clause-decides c = subst (λ (o : Option Entry). Decides MayStand (KeepsOne c.args.common.now c.args.head.pid c.args.audited.now) (told c) o) (sym c.childless.ensures.entry) (decides c)

pub returns-in-Ok-clause-leads : goal.returns-in-Ok-clause-leads
returns-in-Ok-clause-leads c =
    let common = c.args.common.now in
    let p = c.args.head.pid in
    let a = c.args.audited.now in
    let kept = c.sender_of-kept.result in
    let new = c.sync.new.audited in
    leads_one common p a new (told c) refl c.childless.result c.in-Ok.entry c.childless.ensures.entry c.childless.ensures.child (decides c)
    (λ e is. steps_led common p a kept c.sender_of-kept.ensures (KeepsPaged common.front common.limits p a kept common.pager) (paged_kept common p a kept c.sender_of-kept.ensures) (told c) new e
    (itself p.0)
    (subst (λ (o : Option Entry). IfSome o (LeadsTo (KeepsPaged common.front common.limits p a kept common.pager) p new)) is c.in-Ok.ensures.leads))
