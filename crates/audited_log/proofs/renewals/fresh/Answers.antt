use Rattle.std.proofs.Common.{◌≡◌, refl, List, ◌∷◌, ℕ, Option, subst, sym}
use Rattle.std.specs.Option.{IfSome}
use Rattle.bus_msg.specs.declared.entry.Entry.{Entry}
use Rattle.cert_sched.specs.Legal.{MayStand}
use Rattle.entry_lines.specs.declared.told.Told.{Told}
use Rattle.entry_lines.specs.declared.told.ToldWhat.TheVariants.{Fresh}
use Rattle.log_audit.specs.Decides.{Decides}
use Rattle.audited_process.specs.Lines.{KeepsPaged, LeadsTo}
use Rattle.audited_log.specs.One.{KeepsOne}
use Rattle.audited_log.specs.Answers.{entry_of}
use Rattle.audited_log.specs.Named.{behind_first}
use Rattle.audited_log.proofs.Telling.{itself}
use Rattle.audited_log.proofs.OneLaws.{decides_more, first_named, leads_one, paged_kept, steps_led}
use Rattle.audited_log.proofs.renewals.fresh.Goals as goal

-- the line names the process first
abbrev told : goal.After-childless → List ℕ → Told
told c pids = record { place = c.args.head.place; by = c.args.head.by; what = Fresh pids c.args.head.at c.args.to }

abbrev named : goal.After-childless → List ℕ
named c = (c.args.head.pid).0 ∷ behind_first c.args.pids.now

same : (c : goal.After-childless) → named c ≡ c.args.pids.now
same c = first_named c.args.pids.now (c.args.head.pid).0 c.requires.first

decides : (c : goal.After-childless) → Decides MayStand (KeepsOne c.args.common.now c.args.head.pid c.args.audited.now) (told c (named c)) c.in-Ok.entry
decides c =
    let common = c.args.common.now in
    let p = c.args.head.pid in
    let a = c.args.audited.now in
    let kept = c.sender_of-kept.result in
    decides_more (KeepsPaged common.front common.limits p a kept common.pager) (KeepsOne common p a) (told c (named c)) (paged_kept common p a kept c.sender_of-kept.ensures) c.in-Ok.entry
    (subst (λ (ns : List ℕ). Decides MayStand (KeepsPaged common.front common.limits p a kept common.pager) (told c (p.0 ∷ ns)) c.in-Ok.entry) c.behind_first-others.ensures c.in-Ok.ensures.decides)

pub returns-in-Ok-clause-decides : goal.returns-in-Ok-clause-decides
returns-in-Ok-clause-decides c =
    subst (λ (ns : List ℕ). Decides MayStand (KeepsOne c.args.common.now c.args.head.pid c.args.audited.now) (told c ns) (entry_of c.childless.result)) (same c)
    (subst (λ (o : Option Entry). Decides MayStand (KeepsOne c.args.common.now c.args.head.pid c.args.audited.now) (told c (named c)) o) (sym c.childless.ensures.entry) (decides c))

pub returns-in-Ok-clause-leads : goal.returns-in-Ok-clause-leads
returns-in-Ok-clause-leads c =
    let common = c.args.common.now in
    let p = c.args.head.pid in
    let a = c.args.audited.now in
    let kept = c.sender_of-kept.result in
    let new = c.fresh.new.audited in
    let Kept = KeepsPaged common.front common.limits p a kept common.pager in
    leads_one common p a new (told c (named c)) refl c.childless.result c.in-Ok.entry c.childless.ensures.entry c.childless.ensures.child (decides c)
    (λ e is. steps_led common p a kept c.sender_of-kept.ensures Kept (paged_kept common p a kept c.sender_of-kept.ensures) (told c (named c)) new e (itself p.0)
    (subst (λ (o : Option Entry). IfSome o (LeadsTo Kept p new)) is c.in-Ok.ensures.leads))
