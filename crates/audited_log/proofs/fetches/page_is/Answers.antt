use Rattle.std.proofs.Common.{Option, subst, sym}
use Rattle.bus_msg.specs.declared.entry.Entry.{Entry}
use Rattle.cert_sched.specs.Legal.{MayStand}
use Rattle.entry_lines.specs.declared.told.Told.{Told}
use Rattle.entry_lines.specs.declared.told.ToldWhat.TheVariants.{PageIs}
use Rattle.log_audit.specs.Answers.{KeepsPages}
use Rattle.log_audit.specs.Decides.{Decides}
use Rattle.audited_log.specs.Common.{IsCommonOf}
use Rattle.audited_log.proofs.OneLaws.{decides_more}
use Rattle.audited_log.proofs.fetches.page_is.Goals as goal

pub returns-in-Ok-clause-decides : goal.returns-in-Ok-clause-decides
returns-in-Ok-clause-decides c =
    let common = c.args.common.now in
    let told : Told = record { place = c.args.place; by = c.args.by; what = PageIs c.args.pid c.args.index } in
    subst (λ (o : Option Entry). Decides MayStand (λ system log. IsCommonOf system log common) told o) (sym c.childless.ensures.entry)
    (decides_more (KeepsPages common.front common.pager) (λ system log. IsCommonOf system log common) told (λ system log valid legal is. record {
      before = is.front;
      accounts = is.accounts;
    }) c.in-Ok.entry c.in-Ok.ensures.decides)
