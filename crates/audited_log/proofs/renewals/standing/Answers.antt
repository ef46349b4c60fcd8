use Rattle.std.proofs.Common.{◌≡◌, refl, ap, ◌∙◌, List, ◌∷◌, ℕ, Option, subst, sym}
use Rattle.bus_msg.specs.declared.entry.Entry.{Entry}
use Rattle.t32_base.specs.declared.letter.BackRec.{BackRec}
use Rattle.cert_sched.specs.Legal.{MayStand}
use Rattle.entry_lines.specs.declared.told.Told.{Told}
use Rattle.entry_lines.specs.declared.told.ToldWhat.TheVariants.{Standing}
use Rattle.log_audit.specs.Decides.{Decides}
use Rattle.audited_process.specs.Lines.{KeepsRecorded}
use Rattle.audited_log.specs.One.{KeepsOne}
use Rattle.audited_log.specs.Named.{behind_first}
use Rattle.audited_log.proofs.OneLaws.{decides_more, first_named, leads_one, recorded_kept, still_led}
use Rattle.audited_log.proofs.renewals.standing.Goals as goal

abbrev told : goal.After-childless → List ℕ → Told
told c pids = record { place = c.args.head.place; by = c.args.head.by; what = Standing pids c.args.head.to }

abbrev named : goal.After-childless → List ℕ
named c = (c.args.head.pid).0 ∷ behind_first c.args.pids.now

same : (c : goal.After-childless) → named c ≡ c.args.pids.now
same c = first_named c.args.pids.now (c.args.head.pid).0 c.requires

decides : (c : goal.After-childless) → Decides MayStand (KeepsOne c.args.common.now c.args.head.pid c.args.audited.now) (told c c.args.pids.now) c.in_ok-entry.entry
decides c =
    let common = c.args.common.now in
    let p = c.args.head.pid in
    let a = c.args.audited.now in
    let Kept = λ (recs : List BackRec). KeepsRecorded common.front p a common.family recs in
    subst (λ (ns : List ℕ). Decides MayStand (KeepsOne common p a) (told c ns) c.in_ok-entry.entry) (ap (λ ns. p.0 ∷ ns) c.behind_first-others.ensures ∙ same c)
    (decides_more (Kept c.records-records.result.now) (KeepsOne common p a) (told c (p.0 ∷ c.behind_first-others.result.now))
    (λ system log valid legal keeps. subst (λ (recs : List BackRec). Kept recs system log) (sym c.records-records.ensures)
    (recorded_kept common p a system log valid legal keeps)) c.in_ok-entry.entry c.in_ok-entry.ensures)

pub returns-clause-decides : goal.returns-clause-decides
returns-clause-decides c = subst (λ (o : Option Entry). Decides MayStand (KeepsOne c.args.common.now c.args.head.pid c.args.audited.now) (told c c.args.pids.now) o) (sym c.childless.ensures.entry)
    (decides c)

pub returns-clause-leads : goal.returns-clause-leads
returns-clause-leads c =
    let common = c.args.common.now in
    let p = c.args.head.pid in
    let a = c.args.audited.now in
    leads_one common p a a (told c c.args.pids.now) refl c.childless.result c.in_ok-entry.entry c.childless.ensures.entry c.childless.ensures.child (decides c) (λ e is. still_led common p a
    (told c c.args.pids.now) e refl)
