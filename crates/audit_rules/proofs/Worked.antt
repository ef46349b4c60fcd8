-- Worked sections of one system, by computation: one is explained, and against others there are findings.
use Rattle.std.proofs.Common.{◌≡◌, ℕ, refl, sym, ◌∙◌, ap, subst, List, [], ◌∷◌, ◌++◌, codes, map, true, false, Option, Some, None, true≢false}
use Rattle.std.specs.Prelude.{option_map, unwrap_or}
use Rattle.std.specs.Fmt.{digits}
use Rattle.hex.proofs.OnLiterals.{hex_on_literals}
use Rattle.t32_base.specs.declared.process.Pid.{Pid}
use Rattle.t32_base.specs.declared.process.End.TheVariants.{Exit as Exited}
use Rattle.t32_base.specs.declared.letter.Body.TheVariants.{Said}
use Rattle.t32_base.specs.declared.letter.To.TheVariants.{Tty}
use Rattle.sys_calls.specs.declared.steps.Emission.{Emission}
use Rattle.sys_calls.specs.declared.steps.Emission.TheVariants.{Mail as Sent}
use Rattle.sys_calls.specs.Next.{silently}
use Rattle.plain_kernel.specs.declared.item.Item.TheVariants.{Run as Runs}
use Rattle.plain_kernel.specs.Kernel.{boot}
use Rattle.plain_kernel.specs.Apply.{one_step, steps}
use Rattle.bus_msg.specs.declared.entry.What.{What}
use Rattle.bus_msg.specs.declared.entry.What.TheVariants.{Mail, Exit, Crash, Rebackup, Done}
use Rattle.bus_msg.specs.declared.entry.By.{By}
use Rattle.bus_msg.specs.declared.entry.By.TheVariants.{Cluster, Bus}
use Rattle.bus_msg.specs.declared.entry.Entry.{Entry}
use Rattle.bus_msg.specs.PlacedAfter.{what}
use Rattle.cert_sched.specs.Schedule.{plain_after, placement, schedule_of}
use Rattle.cert_sched.specs.Told.{cluster_lost, told}
use Rattle.cert_sched.specs.Record.{backup_record}
use Rattle.cert_sched.specs.Account.{account_after}
use Rattle.cert_sched.specs.Steps.{silent_upto, emission_at, before_fork_at}
use Rattle.cert_sched.specs.Rules.{is_over}
use Rattle.cert_sched.specs.Kinds.{IsSent, KindHolds}
use Rattle.cert_sched.specs.Scripted.{is_done}
use Rattle.cert_sched.specs.Legal.{IsLegalBy, MayFollow}
use Rattle.cert_sched.proofs.Systems.{cluster, hi_system}
use Rattle.report_text.specs.declared.run.Run.{Run}
use Rattle.report_text.specs.declared.run.Ended.{Ended}
use Rattle.report_text.specs.declared.run.Ended.TheVariants.{Finished, Lost}
use Rattle.report_text.specs.Good.{EndsAs}
use Rattle.report_text.specs.RunReport.{report_of}
use Rattle.entry_lines.specs.declared.told.ToldBy.TheVariants.{Cluster as ByCluster}
use Rattle.entry_lines.specs.declared.told.ToldLetter.TheVariants.{Shown}
use Rattle.entry_lines.specs.declared.told.ToldEnd.TheVariants.{Exit as ToldExited}
use Rattle.entry_lines.specs.declared.told.ToldWhat.TheVariants.{Mail as ToldMail, Exit as ToldExit}
use Rattle.entry_lines.specs.declared.told.Told.{Told}
use Rattle.entry_lines.specs.Told.{told_of, told_what}
use Rattle.log_section.specs.Form.{IsForm}
use Rattle.audit_text.specs.declared.finding.Finding.TheVariants.{Form, Entry as Refused, Unended}
use Rattle.audit_rules.specs.Explained.{ExplainedBy}
use Rattle.audit_rules.specs.Findings.{AuditCause}

-- ---- one process says hi and exits

abbrev pid : Pid
pid = record { 0 = 16 }

abbrev entry : ℕ → By → ℕ → Option ℕ → What → Entry
entry place by clusters tty what = record { place = place; post = record { by = by; what = what }; dests = record { clusters = clusters; tty = tty } }

abbrev hi_0 : Entry
hi_0 = entry 0 (Cluster (cluster 0)) 2 (Some 0) (Mail 6 (record { from = pid; out = 0; to = Tty 0; body = Said (104 ∷ 105 ∷ 10 ∷ []) }))

abbrev hi_1 : Entry
hi_1 = entry 1 (Cluster (cluster 0)) 3 None (Exit pid 10 (Exited 0))

abbrev hi_2 : Entry
hi_2 = entry 2 Bus 3 None (Done [])

follows_0 : MayFollow hi_system [] hi_0
unfolding boot one_step steps silently plain_after schedule_of placement told is_over silent_upto emission_at before_fork_at backup_record account_after
follows_0 = record { stands = record { placed = (refl, refl, refl); by_right = refl; applies = refl; kind = refl }; limits = refl; backup = refl; new_page = refl; pages = refl }

follows_1 : MayFollow hi_system (hi_0 ∷ []) hi_1
unfolding boot one_step steps silently plain_after schedule_of placement told is_over silent_upto emission_at before_fork_at backup_record account_after
follows_1 = record { stands = record { placed = (refl, refl, refl); by_right = refl; applies = refl; kind = (refl, refl) }; limits = refl; backup = refl; new_page = refl; pages = refl }

follows_2 : MayFollow hi_system (hi_0 ∷ hi_1 ∷ []) hi_2
unfolding boot one_step steps silently plain_after schedule_of placement told is_over silent_upto emission_at before_fork_at backup_record account_after
follows_2 = record {
  stands = record { placed = (refl, refl, refl); by_right = refl; applies = refl; kind = record { named = refl; silent = refl; still = refl } };
  limits = refl;
  backup = refl;
  new_page = refl;
  pages = refl;
}

none_legal : IsLegalBy MayFollow hi_system []
unfolding IsLegalBy
none_legal = tt

two_legal : IsLegalBy MayFollow hi_system (hi_0 ∷ hi_1 ∷ [])
unfolding IsLegalBy
two_legal = (follows_0, (follows_1, tt))

hi_legal : IsLegalBy MayFollow hi_system (hi_0 ∷ hi_1 ∷ hi_2 ∷ [])
unfolding IsLegalBy
hi_legal = (follows_0, (follows_1, (follows_2, tt)))

-- ---- its section is explained

abbrev hi_section : List ℕ
hi_section =
    codes "tty 0 3\nhi\n\npid 16 exit 0\ncrash none\nbus 3 syncs 0 withheld 0\nschedule 2\nrun 16 6\nrun 16 4\nlog 3\n0 0 mail 16 at 6 out 0 tty 0 68690a\n1 0 exit 16 at 10 exit 0\n2 bus done\n"

abbrev hi_run : Run
hi_run = record { log = hi_0 ∷ hi_1 ∷ hi_2 ∷ []; items = Runs pid 6 ∷ Runs pid 4 ∷ []; ended = Finished; steps = []; disk_calls = []; withheld = 0 }

hi_explained : ExplainedBy MayFollow hi_system hi_section
unfolding digits hex_on_literals boot one_step steps silently plain_after schedule_of placement told is_over silent_upto emission_at before_fork_at backup_record account_after
hi_explained = record {
  log = hi_0 ∷ hi_1 ∷ hi_2 ∷ [];
  run = hi_run;
  kernel = unwrap_or (plain_after hi_system (hi_0 ∷ hi_1 ∷ hi_2 ∷ [])) (boot hi_system);
  legal = hi_legal;
  fits = refl;
  is = refl;
  items = refl;
  withheld = refl;
  ended = refl;
  plain = refl;
  section_is = refl;
}

-- ---- no section is not, and it is of no form

not_none : (front rest : List ℕ) (c : ℕ) → [] ≡ front ++ c ∷ rest → ⊥
not_none [] rest c is = cc
not_none (b ∷ front) rest c is = cc

none_unexplained : ExplainedBy MayFollow hi_system [] → ⊥
none_unexplained is = not_none (report_of is.kernel is.run) _ _ is.section_is

none_found : AuditCause MayFollow hi_system [] Form
none_found = refl

-- ---- the letter comes a step too early: its entry may not stand

abbrev early_section : List ℕ
early_section =
    codes "tty 0 3\nhi\n\npid 16 exit 0\ncrash none\nbus 3 syncs 0 withheld 0\nschedule 2\nrun 16 6\nrun 16 4\nlog 3\n0 0 mail 16 at 5 out 0 tty 0 68690a\n1 0 exit 16 at 10 exit 0\n2 bus done\n"

abbrev early_line : Told
early_line = record { place = 0; by = ByCluster 0; what = ToldMail 16 5 (Shown 0 0 (104 ∷ 105 ∷ 10 ∷ [])) }

abbrev early_lines : List Told
early_lines = early_line ∷ told_of hi_1 ∷ told_of hi_2 ∷ []

early_form : IsForm early_section early_lines
unfolding digits hex_on_literals
early_form = refl

none_sent : option_map (λ (r : Emission × _). r.0) (emission_at hi_system [] pid 5) ≡ None
unfolding boot one_step steps silently plain_after emission_at
none_sent = refl

early_refused : (log : List Entry) (e : Entry) → map told_of log ≡ [] → told_of e ≡ early_line → MayFollow hi_system log e → ⊥
early_refused (f ∷ log) e none said may = cc
early_refused [] e none said may = by_what (what e) refl (ap (λ (t : Told). t.what) said)
  where
    by_what : (w : What) → what e ≡ w → told_what w ≡ ToldMail 16 5 (Shown 0 0 (104 ∷ 105 ∷ 10 ∷ [])) → ⊥
    by_what (Mail at letter) is line =
        let when : at ≡ 5 = cc in
        let from : (letter.from).0 ≡ 16 = cc in
        let who : letter.from ≡ pid = λ i. record { 0 = from i } in
        let holds : IsSent hi_system [] letter.from at (Sent letter) = subst (KindHolds hi_system [] e) is (may.stands).kind in
        let sent : IsSent hi_system [] pid 5 (Sent letter) = subst (λ (n : ℕ). IsSent hi_system [] pid n (Sent letter)) when (subst (λ (p : Pid). IsSent hi_system [] p at (Sent letter)) who holds) in
        let clash : None ≡ Some (Sent letter) = sym none_sent ∙ sent in
        cc
    by_what (Rebackup to true recs) is line = cc
    by_what (Rebackup to false recs) is line = cc
    by_what _ is line = cc

early_found : AuditCause MayFollow hi_system early_section (Refused 0)
early_found = (
  early_lines,
  early_form,
  record {
    log = [];
    before = record { legal = none_legal; said = refl };
    line = early_line;
    there = refl;
    none = λ log e has said may. early_refused log e has.said said may;
  },
)

-- ---- the last line is not there: the log has not ended

abbrev open_section : List ℕ
open_section = codes "tty 0 3\nhi\n\npid 16 exit 0\ncrash none\nbus 2 syncs 0 withheld 0\nschedule 2\nrun 16 6\nrun 16 4\nlog 2\n0 0 mail 16 at 6 out 0 tty 0 68690a\n1 0 exit 16 at 10 exit 0\n"

abbrev open_lines : List Told
open_lines = told_of hi_0 ∷ told_of hi_1 ∷ []

open_form : IsForm open_section open_lines
unfolding digits hex_on_literals
open_form = refl

exit_line : (w : What) → told_what w ≡ ToldExit 16 10 (ToldExited 0) → (is_done w ≡ false) × (cluster_lost w ≡ None)
exit_line (Done rests) line = cc
exit_line (Crash k cause) line = cc
exit_line _ line = (refl, refl)

goes_on : (log : List Entry) → map told_of log ≡ open_lines → (ended : Ended) → EndsAs hi_system log ended → ⊥
unfolding told
goes_on [] lines ended is = cc
goes_on (e ∷ []) lines ended is = cc
goes_on (e ∷ f ∷ g ∷ log) lines ended is = cc
goes_on (e ∷ f ∷ []) lines ended is = by_end ended is
  where
    line : told_what (what f) ≡ ToldExit 16 10 (ToldExited 0)
    line = let told : told_of f ≡ told_of hi_1 = cc in ap (λ (t : Told). t.what) told

    by_end : (ended : Ended) → EndsAs hi_system (e ∷ f ∷ []) ended → ⊥
    by_end Finished is = true≢false (sym is ∙ (exit_line (what f) line).0)
    by_end (Lost k at) is = let lost : None ≡ Some k = sym (exit_line (what f) line).1 ∙ is.0 in cc

open_found : AuditCause MayFollow hi_system open_section Unended
open_found = (open_lines, open_form, record { log = hi_0 ∷ hi_1 ∷ []; all = record { legal = two_legal; said = refl }; none = λ log has ended. goes_on log has.said ended.0 ended.1 })
