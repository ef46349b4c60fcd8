use Rattle.std.proofs.Common.{refl, Option, subst, sym}
use Rattle.std.specs.Option.{IfSome}
use Rattle.bus_msg.specs.declared.entry.Entry.{Entry}
use Rattle.cert_sched.specs.Legal.{MayStand}
use Rattle.entry_lines.specs.declared.told.Told.{Told}
use Rattle.entry_lines.specs.declared.told.ToldWhat.TheVariants.{Page}
use Rattle.log_audit.specs.Decides.{Decides}
use Rattle.audited_process.specs.Lines.{KeepsAudited, LeadsTo}
use Rattle.audited_log.specs.One.{KeepsOne}
use Rattle.audited_log.proofs.OneLaws.{audited_kept, decides_more, leads_one, page_led}
use Rattle.audited_log.proofs.pages.answer.Goals as goal

abbrev told : goal.After-childless → Told
told c = record { place = c.args.head.place; by = c.args.head.by; what = Page (c.args.head.pid).0 c.args.head.at c.args.index }

decides : (c : goal.After-childless) → Decides MayStand (KeepsOne c.args.common.now c.args.head.pid c.args.audited.now) (told c) c.in_ok-entry.entry
decides c =
    let common = c.args.common.now in
    let p = c.args.head.pid in
    let a = c.args.audited.now in
    let kept = c.sender_of-kept.result in
    decides_more (KeepsAudited common.front common.limits p a kept) (KeepsOne common p a) (told c) (audited_kept common p a kept c.sender_of-kept.ensures) c.in_ok-entry.entry
    c.in_ok-entry.ensures.decides

pub returns-clause-decides : goal.returns-clause-decides
returns-clause-decides c = subst (λ (o : Option Entry). Decides MayStand (KeepsOne c.args.common.now c.args.head.pid c.args.audited.now) (told c) o) (sym c.childless.ensures.entry) (decides c)

pub returns-clause-leads : goal.returns-clause-leads
returns-clause-leads c =
    let common = c.args.common.now in
    let p = c.args.head.pid in
    let a = c.args.audited.now in
    let kept = c.sender_of-kept.result in
    let new = c.page.new.audited in
    leads_one common p a new (told c) refl c.childless.result c.in_ok-entry.entry c.childless.ensures.entry c.childless.ensures.child (decides c)
    (λ e is. page_led common p a kept c.sender_of-kept.ensures (told c) new e c.page.ensures.ahead
    (subst (λ (o : Option Entry). IfSome o (LeadsTo (KeepsAudited common.front common.limits p a kept) p new)) is c.in_ok-entry.ensures.leads))
