-- The end of the run: the processes that are kept are those that have not ended, and none is asked for behind it.
use Rattle.std.proofs.Common.{◌≡◌, ℕ, refl, sym, ◌∙◌, ap, subst, List, true, false, cond, Option, Some, None, is_some, BTreeMap, true≢false}
use Rattle.std.specs.Prelude.{option_map}
use Rattle.std.specs.Option.{IfSome}
use Rattle.std.specs.Map.{lookup}
use Rattle.t32_base.specs.declared.process.Pid.{Pid}
use Rattle.sys_text.specs.declared.system.System.{System}
use Rattle.sys_text.specs.Valid.{is_system}
use Rattle.proc_state.specs.declared.process.Process.{Process}
use Rattle.proc_state.specs.State.{state_of}
use Rattle.plain_kernel.specs.Maps.{at_key}
use Rattle.bus_msg.specs.declared.entry.What.{What}
use Rattle.bus_msg.specs.declared.entry.What.TheVariants.{Done}
use Rattle.bus_msg.specs.declared.entry.Entry.{Entry}
use Rattle.bus_msg.specs.Places.{unended_at}
use Rattle.bus_msg.specs.PlacedAfter.{what}
use Rattle.cert_sched.specs.Schedule.{placement, process_after}
use Rattle.cert_sched.specs.Legal.{IsLegalBy, MayStand}
use Rattle.entry_lines.specs.declared.told.Told.{Told}
use Rattle.entry_lines.specs.Told.{told_what}
use Rattle.line_laws.specs.Meant.{is_end}
use Rattle.log_audit.specs.Decides.{Decides}
use Rattle.log_audit.specs.Front.{is_next}
use Rattle.log_ends.specs.Ends.{KeepsUnended}
use Rattle.audited_process.specs.declared.audited.Audited.{Audited}
use Rattle.audited_log.specs.declared.answer.Answer.{Answer}
use Rattle.audited_log.specs.declared.state.AuditedLog.{AuditedLog}
use Rattle.audited_log.specs.Processes.{BearsAs, IsKept, kept_at, process_in}
use Rattle.audited_log.specs.State.{IsStateOf}
use Rattle.audited_log.specs.Answers.{IsChildless, Leads, entry_of}
use Rattle.audited_log.proofs.Answering.{not_over}
use Rattle.audited_log.proofs.Telling.{done_told, is_birth_told, is_done_told, unborn}

module _ (state : AuditedLog) (place : ℕ) (processes : List (ℕ × Process)) (next : is_next (state.common).front place ≡ true)
    (taken : (p : Pid) → lookup (at_key p.0) processes ≡ process_in (kept_at (state.processes).entries p)) where
  as_it_stands : (system : System) (log : List Entry) (p : Pid) (o : Option Audited) → IsKept system log p o
      → option_map state_of (process_in o) ≡ cond (is_some (unended_at (placement system log) p)) (process_after system log p) None
  as_it_stands system log p None is = sym (ap (λ b. cond b (process_after system log p) None) is)
  as_it_stands system log p (Some a) is = sym (is.audited).there ∙ ap (λ b. cond b (process_after system log p) None) (sym is.unended)

  pub unended_kept : (system : System) (log : List Entry) → is_system system ≡ true → IsLegalBy MayStand system log → IsStateOf system log state
      → KeepsUnended (state.common).front processes system log
  unended_kept system log valid legal is = record {
    before = (is.common).front;
    unended = λ p. ap (option_map state_of) (taken p)
        ∙ as_it_stands system log p (kept_at (state.processes).entries p) (is.processes (not_over (state.common).front place system log next (is.common).front) p);
  }

no_birth : (w : What) → is_end w ≡ true → is_birth_told (told_what w) ≡ false
no_birth (Done rests) ends = refl
no_birth _ ends = absurd (true≢false (sym ends))

pub done_leads : (state : AuditedLog) (told : Told) (m : BTreeMap ℕ Audited) → is_done_told told.what ≡ true → (r : Option Answer) → IfSome r IsChildless
    → Decides MayStand (λ system log. IsStateOf system log state) told (entry_of r) → IfSome r (Leads state (record state { processes = m }))
done_leads state told m done None child decides = tt
done_leads state told m done (Some r) child decides = λ system log valid legal is.
    let line = (decides system log valid legal is).0 in
    let ends : is_end (what r.entry) ≡ true = done_told (what r.entry) ∙ ap (λ (t : Told). is_done_told t.what) line ∙ done in
    record {
      common = is.common;
      processes = λ goes. absurd (true≢false (sym ends ∙ goes));
      child = subst (λ o. BearsAs system log r.entry o) (sym child) (unborn (what r.entry) (no_birth (what r.entry) ends));
    }
