use Rattle.std.proofs.Common.{refl, Option, subst, sym}
use Rattle.bus_msg.specs.declared.entry.Entry.{Entry}
use Rattle.cert_sched.specs.Legal.{MayStand}
use Rattle.entry_lines.specs.declared.told.Told.{Told}
use Rattle.entry_lines.specs.declared.told.ToldWhat.TheVariants.{Fetch}
use Rattle.log_audit.specs.Decides.{Decides}
use Rattle.audited_process.specs.Lines.{KeepsFetched}
use Rattle.audited_log.specs.One.{KeepsOne}
use Rattle.audited_log.proofs.OneLaws.{decides_more, fetched_kept, leads_one, still_led}
use Rattle.audited_log.proofs.fetches.fetch.Goals as goal

abbrev told : goal.After-childless → Told
told c = record { place = c.args.place; by = c.args.by; what = Fetch (c.args.pid).0 c.args.index }

decides : (c : goal.After-childless) → Decides MayStand (KeepsOne c.args.common.now c.args.pid c.args.audited.now) (told c) c.fetch.result
decides c =
    let common = c.args.common.now in
    let p = c.args.pid in
    let a = c.args.audited.now in
    decides_more (KeepsFetched common.front p a common.fetches) (KeepsOne common p a) (told c) (fetched_kept common p a) c.fetch.result c.fetch.ensures

pub returns-clause-decides : goal.returns-clause-decides
returns-clause-decides c = subst (λ (o : Option Entry). Decides MayStand (KeepsOne c.args.common.now c.args.pid c.args.audited.now) (told c) o) (sym c.childless.ensures.entry) (decides c)

pub returns-clause-leads : goal.returns-clause-leads
returns-clause-leads c =
    let common = c.args.common.now in
    let p = c.args.pid in
    let a = c.args.audited.now in
    leads_one common p a a (told c) refl c.childless.result c.fetch.result c.childless.ensures.entry c.childless.ensures.child (decides c) (λ e is. still_led common p a (told c) e refl)
