-- The entry of a line of a process that is kept leads it to where it stands then.
use Rattle.std.proofs.Common.{◌≡◌, ℕ, refl, ◌∙◌, ap, List, true, eqb, eq-eqb, Option, Some, None, Result, Ok, Err}
use Rattle.std.specs.Prelude.{IfOk, option_map}
use Rattle.std.specs.Option.{IfSome}
use Rattle.t32_base.specs.declared.process.Pid.{Pid}
use Rattle.sys_text.specs.declared.system.System.{System}
use Rattle.proc_state.specs.State.{ProcState, state_of}
use Rattle.bus_msg.specs.declared.entry.Entry.{Entry}
use Rattle.bus_msg.specs.PlacedAfter.{what}
use Rattle.cert_sched.specs.Legal.{MayStand}
use Rattle.entry_lines.specs.declared.told.Told.{Told}
use Rattle.entry_lines.specs.declared.told.ToldLetter.{ToldLetter}
use Rattle.page_server.specs.Account.{PagerState}
use Rattle.log_audit.specs.Decides.{Decides}
use Rattle.log_audit.specs.Front.{FrontState}
use Rattle.log_processes.specs.declared.sender.Head.{Head}
use Rattle.log_processes.specs.declared.sender.Limits.{Limits}
use Rattle.log_processes.specs.declared.sender.Sender.{Sender}
use Rattle.log_processes.specs.Letters.{AnswersLetter}
use Rattle.log_processes.specs.Sending.{Leads}
use Rattle.log_cuts.specs.Syncs.{AnswersSync, KeepsCut, LeadsToCut}
use Rattle.log_births.specs.declared.births.Born.{Born}
use Rattle.log_births.specs.declared.births.ToldChild.{ToldChild}
use Rattle.log_births.specs.Births.{AnswersBirth, BearsChild}
use Rattle.log_renewals.specs.Fresh.{AnswersFresh, KeepsFresh, LeadsToRenewal}
use Rattle.audited_process.specs.declared.audited.Audited.{Audited}
use Rattle.audited_process.specs.Leading.{SameBeside, is_letter_told, is_standing_told}
use Rattle.audited_process.specs.Lines.{KeepsAudited, KeepsPaged, LeadsTo}
use Rattle.audited_process.proofs.ByKind.{letter_told, standing_told}
use Rattle.audited_process.proofs.LeadsOn.{leads_on}

-- what is right where less is kept is right where more is
pub decides_more : (Old New : System → List Entry → Type 0) (told : Told) → ((system : System) (log : List Entry) → New system log → Old system log) → (o : Option Entry)
    → Decides MayStand Old told o → Decides MayStand New told o
decides_more Old New told more None decides = λ system log e valid legal keeps is may. decides system log e valid legal (more system log keeps) is may
decides_more Old New told more (Some e) decides = λ system log valid legal keeps. decides system log valid legal (more system log keeps)

-- two facts of a result that is Ok give a third
pub both_if_ok : {T E : Type 0} (r : Result T E) (A B C : T → Type 0) → ((x : T) → A x → B x → C x) → IfOk r A → IfOk r B → IfOk r C
both_if_ok (Ok x) A B C f a b = f x a b
both_if_ok (Err e) A B C f a b = tt

itself : (n : ℕ) → eqb n n ≡ true
itself n = eq-eqb n n refl

-- ---- where they lead

module _ (front : FrontState) (limits : Limits) (head : Head) (a : Audited) (kept : Sender) where
  abbrev p : Pid
  p = head.pid

  abbrev s : ProcState
  s = state_of a.process

  pub letter_leads : (told : ToldLetter) (new : Audited) → SameBeside a new → (o : Option Entry) → AnswersLetter front limits head kept s told o
      → IfSome o (λ e. Leads front limits p kept s e (state_of new.process))
      → IfSome o (LeadsTo (KeepsAudited front limits p a kept) p new)
  letter_leads told new same None decides lead = tt
  letter_leads told new same (Some e) decides lead = λ system log valid legal keeps.
      leads_on.sends system log e p a new
      (letter_told p (what e) ∙ ap (λ (t : Told). is_letter_told p.0 t.what) (decides system log valid legal keeps.sender).0 ∙ itself p.0) keeps.audited same (lead system log keeps.sender)

  pub birth_leads : (told : ToldChild) (new : Audited) → SameBeside a new → (o : Option Born) → AnswersBirth front limits head kept s told (option_map (λ (b : Born). b.entry) o)
      → IfSome o (λ b. BearsChild front limits p kept s b (state_of new.process)) → IfSome o (λ b. LeadsTo (KeepsAudited front limits p a kept) p new b.entry)
  birth_leads told new same None decides lead = tt
  birth_leads told new same (Some b) decides lead = λ system log valid legal keeps.
      leads_on.stands system log b.entry p a new
      (standing_told p (what b.entry) ∙ ap (λ (t : Told). is_standing_told p.0 t.what) (decides system log valid legal keeps.sender).0 ∙ itself p.0) keeps.audited same
      ((lead system log valid legal keeps.sender).0).there

  module _ (pager : PagerState) where
    pub cut : (system : System) (log : List Entry) → KeepsPaged front limits p a kept pager system log → KeepsCut front limits p s kept (a.begun).start pager system log
    cut system log keeps = record { sender = keeps.0.sender; begun = ((keeps.0.audited).begun).start; accounts = keeps.1 }

    pub sync_leads : (took : Option ℕ) (new : Audited) → SameBeside a new → (o : Option Entry) → AnswersSync front limits head kept (a.begun).start pager s took o
        → IfSome o (λ e. LeadsToCut front limits p kept (a.begun).start pager s e (state_of new.process)) → IfSome o (LeadsTo (KeepsPaged front limits p a kept pager) p new)
    sync_leads took new same None decides lead = tt
    sync_leads took new same (Some e) decides lead = λ system log valid legal keeps.
        leads_on.stands system log e p a new
        (standing_told p (what e) ∙ ap (λ (t : Told). is_standing_told p.0 t.what) (decides system log valid legal (cut system log keeps)).0
        ∙ itself p.0) keeps.0.audited same (lead system log (cut system log keeps))

    pub renewed : (system : System) (log : List Entry) → KeepsPaged front limits p a kept pager system log → KeepsFresh front limits p s kept pager system log
    renewed system log keeps = record { sender = keeps.0.sender; accounts = keeps.1 }

    pub fresh_leads : (others : List ℕ) (to : ℕ) (new : Audited) → SameBeside a new → (o : Option Entry) → AnswersFresh front limits head others to kept pager s o
        → IfSome o (λ e. LeadsToRenewal front limits p kept pager s e (state_of new.process)) → IfSome o (LeadsTo (KeepsPaged front limits p a kept pager) p new)
    fresh_leads others to new same None decides lead = tt
    fresh_leads others to new same (Some e) decides lead = λ system log valid legal keeps.
        leads_on.stands system log e p a new
        (standing_told p (what e) ∙ ap (λ (t : Told). is_standing_told p.0 t.what) (decides system log valid legal (renewed system log keeps)).0
        ∙ itself p.0) keeps.0.audited same (lead system log (renewed system log keeps))
