-- Answers to lines, from what is kept of one process or of all of them together to what is kept of the log.
use Rattle.std.proofs.Common.{◌≡◌, ℕ, ◌<◌, ◌^◌, refl, sym, ◌∙◌, ap, subst, List, Bool, true, false, not, eqb, Option, Some, None, BTreeMap, true≢false}
use Rattle.std.specs.Option.{IfSome}
use Rattle.std.specs.Map.{set_value}
use Rattle.std.proofs.lemmas.Bool.{and_parts}
use Rattle.t32_base.specs.declared.process.Pid.{Pid}
use Rattle.sys_text.specs.declared.system.System.{System}
use Rattle.sys_text.specs.Valid.{is_system}
use Rattle.plain_kernel.specs.Maps.{at_key}
use Rattle.bus_msg.specs.declared.entry.Entry.{Entry}
use Rattle.bus_msg.specs.PlacedAfter.{what}
use Rattle.cert_sched.specs.Schedule.{placement}
use Rattle.cert_sched.specs.Rules.{is_over}
use Rattle.cert_sched.specs.Legal.{IsLegalBy, MayStand}
use Rattle.entry_lines.specs.declared.told.Told.{Told}
use Rattle.entry_lines.specs.declared.told.ToldWhat.{ToldWhat}
use Rattle.entry_lines.specs.declared.told.ToldWhat.TheVariants.{Birth as ToldBirth}
use Rattle.entry_lines.specs.Told.{told_of}
use Rattle.log_audit.specs.Decides.{Decides}
use Rattle.log_audit.specs.Front.{FrontState, IsFrontOf, is_next}
use Rattle.number_laws.proofs.LogPids.{unended_fits}
use Rattle.audited_process.specs.declared.audited.Audited.{Audited}
use Rattle.audited_process.specs.Leading.{is_step_told}
use Rattle.audited_process.specs.Concerns.{steps_by}
use Rattle.audited_log.specs.declared.answer.Answer.{Answer}
use Rattle.audited_log.specs.declared.common.Common.{Common}
use Rattle.audited_log.specs.declared.state.AuditedLog.{AuditedLog}
use Rattle.audited_log.specs.Common.{IsCommonOf}
use Rattle.audited_log.specs.Named.{doer}
use Rattle.audited_log.specs.Processes.{AreKept, BearsAs, IsKept, IsLed, kept_at}
use Rattle.audited_log.specs.State.{IsStateOf}
use Rattle.audited_log.specs.One.{KeepsOne, LeadsOne, StaysCommon}
use Rattle.audited_log.specs.Answers.{AnswersTold, IsChildless, Leads, entry_of}
use Rattle.audited_log.proofs.Telling.{is_birth_told, none_steps, only_doer, step_told, unborn}
use Rattle.audited_log.proofs.Leading.{unled_as}
use Rattle.audited_log.proofs.OneLaws.{decides_more}
use Rattle.audited_log.proofs.Maps.{elsewhere, here, key_same, other_number}
use Rattle.audited_log.proofs.Doers.{does}

-- ---- the log is not over

pub not_over : (front : FrontState) (place : ℕ) (system : System) (log : List Entry) → is_next front place ≡ true → IsFrontOf system log front → is_over system log ≡ false
not_over front place system log next before = sym before.over ∙ off front.over (and_parts (eqb front.length place) (not front.over) next).1
  where
    off : (b : Bool) → not b ≡ true → b ≡ false
    off true is = absurd (true≢false (sym is))
    off false is = refl

-- ---- no process is kept with that number

pub absent_refused : (state : AuditedLog) (told : Told) (n : ℕ) → doer told.what ≡ Some n → ((p : Pid) → p.0 ≡ n → p.0 < 2 ^ 32 → kept_at (state.processes).entries p ≡ None)
    → AnswersTold state told None
absent_refused state told n is nothing = λ system log e valid legal keeps line may.
    let one = does (placement system log) (e.post).by (what e) n (ap (λ (t : Told). doer t.what) line ∙ is) (may.stands).by_right in
    let open_log : is_over system log ≡ false = ((may.stands).placed).2 in
    let kept : IsKept system log one.p None = subst (IsKept system log one.p) (nothing one.p one.number (unended_fits system log one.p valid legal one.unended)) (keeps.processes open_log one.p) in
    true≢false (sym one.unended ∙ kept)

-- ---- a line of a process that is kept

module _ (state : AuditedLog) (told : Told) (p : Pid) (a : Audited) (next : is_next (state.common).front told.place ≡ true) (there : kept_at (state.processes).entries p ≡ Some a) where
  pub state_one : (system : System) (log : List Entry) → is_system system ≡ true → IsLegalBy MayStand system log → IsStateOf system log state → KeepsOne state.common p a system log
  state_one system log valid legal is = record {
    common = is.common;
    one = subst (IsKept system log p) there (is.processes (not_over (state.common).front told.place system log next (is.common).front) p);
  }

  pub one_answers : (r : Option Answer) → Decides MayStand (KeepsOne state.common p a) told (entry_of r) → AnswersTold state told (entry_of r)
  one_answers r decides = decides_more (KeepsOne state.common p a) (λ system log. IsStateOf system log state) told state_one (entry_of r) decides

  pub one_leads : (c : Common) (m : BTreeMap ℕ Audited) (new : Audited) → doer told.what ≡ Some p.0 → m.entries ≡ set_value (at_key p.0) (state.processes).entries new → StaysCommon state.common c
      → (r : Option Answer) → Decides MayStand (KeepsOne state.common p a) told (entry_of r) → IfSome r (LeadsOne state.common p a new) → IfSome r (Leads state (record { common = c; processes = m }))
  one_leads c m new does_it made stays None decides leads = tt
  one_leads c m new does_it made stays (Some r) decides leads = λ system log valid legal is.
      let keeps = state_one system log valid legal is in
      let line = (decides system log valid legal keeps).0 in
      let one = leads system log valid legal keeps in
      let kept = is.processes (not_over (state.common).front told.place system log next (is.common).front) in
      record {
        common = stays system log is.common;
        processes = λ goes q. subst (λ es. IsLed r.entry system log q (kept_at es q)) (sym made) (by_key system log r.entry line one.led kept q (at_key p.0 q.0) refl);
        child = one.child;
      }
    where
      by_key : (system : System) (log : List Entry) (e : Entry) → told_of e ≡ told → IsLed e system log p (Some new) → AreKept system log (state.processes).entries → (q : Pid) → (b : Bool)
          → at_key p.0 q.0 ≡ b
          → IsLed e system log q (kept_at (set_value (at_key p.0) (state.processes).entries new) q)
      by_key system log e line led kept q true same =
          let me : p ≡ q = λ i. record { 0 = key_same p.0 q.0 same i } in
          subst (λ (q : Pid). IsLed e system log q (kept_at (set_value (at_key p.0) (state.processes).entries new) q)) me
          (subst (λ (o : Option Audited). IsLed e system log p o) (sym (here p (state.processes).entries a new there)) led)
      by_key system log e line led kept q false other =
          let none : steps_by q (what e) ≡ false = step_told q (what e) ∙ ap (λ (t : Told). is_step_told q.0 t.what) line ∙ only_doer told.what p.0 q.0 does_it (other_number p.0 q.0 other) in
          subst (λ (o : Option Audited). IsLed e system log q o) (sym (elsewhere p q (state.processes).entries new other)) (unled_as system log e q (kept_at (state.processes).entries q) none (kept q))

-- ---- a line of no process

module _ (state : AuditedLog) (told : Told) where
  no_birth : (w : ToldWhat) → doer w ≡ None → is_birth_told w ≡ false
  no_birth (ToldBirth parent at child end) none = cc
  no_birth _ none = refl

  pub common_leads : (c : Common) → is_next (state.common).front told.place ≡ true → doer told.what ≡ None → StaysCommon state.common c → (r : Option Answer) → IfSome r IsChildless
      → Decides MayStand (λ system log. IsCommonOf system log state.common) told (entry_of r) → IfSome r (Leads state (record state { common = c }))
  common_leads c next none stays None child decides = tt
  common_leads c next none stays (Some r) child decides = λ system log valid legal is.
      let line = (decides system log valid legal is.common).0 in
      let kept = is.processes (not_over (state.common).front told.place system log next (is.common).front) in
      record {
        common = stays system log is.common;
        processes = λ goes q. unled_as system log r.entry q (kept_at (state.processes).entries q)
            (step_told q (what r.entry) ∙ ap (λ (t : Told). is_step_told q.0 t.what) line ∙ none_steps told.what q.0 none) (kept q);
        child = subst (λ o. BearsAs system log r.entry o) (sym child) (unborn (what r.entry) (ap (λ (t : Told). is_birth_told t.what) line ∙ no_birth told.what none));
      }
