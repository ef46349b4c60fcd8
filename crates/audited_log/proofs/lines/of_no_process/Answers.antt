use Rattle.std.proofs.Common.{◌≡◌, sym, subst}
use Rattle.cert_sched.specs.Legal.{MayStand}
use Rattle.cert_sched.proofs.MayLaws.{legal_may_stand}
use Rattle.entry_lines.specs.declared.told.Told.{Told}
use Rattle.entry_lines.specs.declared.told.ToldWhat.TheVariants.{PageIs}
use Rattle.log_audit.specs.Decides.{Decides}
use Rattle.log_laws.proofs.records.Standing.{all_stand}
use Rattle.page_accounts.proofs.WaitLaws.{earliest_is_kept}
use Rattle.audited_log.specs.Common.{IsCommonOf}
use Rattle.audited_log.specs.Answers.{entry_of}
use Rattle.audited_log.proofs.Answering.{common_leads}
use Rattle.audited_log.proofs.lines.of_no_process.Goals as goal

pub page_is-requires : goal.page_is-requires
page_is-requires c =
    let some = c.requires.ready.some in
    earliest_is_kept some.system some.log (c.args.state.now.common).pager some.valid (all_stand some.system some.log (legal_may_stand some.system some.log some.legal)) ((some.is).common).accounts

pub returns-in_ok-answer-in-PageIs-clause-leads : goal.returns-in_ok-answer-in-PageIs-clause-leads
returns-in_ok-answer-in-PageIs-clause-leads c =
    let state = c.args.state.now in
    let told = c.args.told.now in
    let line : (record { place = told.place; by = told.by; what = PageIs c.in-PageIs.pid c.in-PageIs.index }) ≡ told = λ i. record { place = told.place; by = told.by; what = sym c.in-PageIs.is i } in
    common_leads state told c.page_is.new.common c.requires.ready.next c.requires.doer c.in_ok-answer-in-PageIs.ensures.common c.in_ok-answer-in-PageIs.answer c.in_ok-answer-in-PageIs.ensures.child
    (subst (λ (t : Told). Decides MayStand (λ system log. IsCommonOf system log state.common) t (entry_of c.in_ok-answer-in-PageIs.answer)) line c.in_ok-answer-in-PageIs.ensures.decides)
