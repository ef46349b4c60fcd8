-- Where the entry of a line leads the process that is kept.
use Rattle.std.proofs.Common.{◌≡◌, ℕ, refl, sym, ◌∙◌, ap, subst, List, [], ◌∷◌, ◌++◌, true, false, not, Option, Some, None, true≢false}
use Rattle.std.specs.Prelude.{option_map}
use Rattle.std.specs.Option.{IfSome}
use Rattle.std.proofs.lemmas.Bool.{or_parts}
use Rattle.t32_base.specs.declared.process.Pid.{Pid}
use Rattle.sys_text.specs.declared.system.System.{System}
use Rattle.sys_text.specs.Valid.{is_system}
use Rattle.proc_state.specs.declared.process.Process.{Process}
use Rattle.proc_state.specs.State.{ProcState, state_of}
use Rattle.bus_msg.specs.declared.entry.Entry.{Entry}
use Rattle.bus_msg.specs.declared.entry.What.{What}
use Rattle.bus_msg.specs.declared.entry.What.TheVariants.{Birth, Rebackup}
use Rattle.bus_msg.specs.PlacedAfter.{what}
use Rattle.cert_sched.specs.Schedule.{process_after}
use Rattle.cert_sched.specs.Deeds.{is_birth_of}
use Rattle.cert_sched.specs.Legal.{IsLegalBy, MayStand}
use Rattle.cert_sched.proofs.CameLaws.{same_of}
use Rattle.entry_lines.specs.declared.told.Told.{Told}
use Rattle.entry_lines.specs.declared.told.ToldBy.{ToldBy}
use Rattle.entry_lines.specs.declared.told.ToldEnd.{ToldEnd}
use Rattle.entry_lines.specs.declared.told.ToldWhat.TheVariants.{Birth as ToldBirth, Exit as ToldExit}
use Rattle.entry_lines.specs.Told.{told_of, told_what}
use Rattle.log_audit.specs.Decides.{Decides}
use Rattle.log_processes.specs.declared.sender.Sender.{Sender}
use Rattle.log_processes.specs.Sending.{KeepsSender}
use Rattle.log_cuts.specs.Ahead.{IsAhead}
use Rattle.log_births.specs.declared.births.Born.{Born}
use Rattle.log_births.specs.Births.{BearsChild}
use Rattle.audited_process.specs.declared.audited.Audited.{Audited}
use Rattle.audited_process.specs.Answering.{SaysSender}
use Rattle.audited_process.specs.Concerns.{gets_letter, goes_on, steps_by}
use Rattle.audited_process.specs.Leading.{is_going_told, is_standing_told, is_step_told}
use Rattle.audited_process.specs.Lines.{KeepsAudited, KeepsFetched, KeepsPaged, KeepsRecorded, LeadsTo}
use Rattle.audited_process.proofs.ByKind.{standing_told}
use Rattle.audited_process.proofs.LeadsOn.{leads_on}
use Rattle.audited_log.specs.declared.answer.Answer.{Answer}
use Rattle.audited_log.specs.declared.common.Common.{Common}
use Rattle.audited_log.specs.Named.{behind_first, first_number}
use Rattle.audited_log.specs.Processes.{BearsAs, IsLedOf}
use Rattle.audited_log.specs.One.{IsOfBirth, KeepsOne, LeadsOne}
use Rattle.audited_log.specs.Answers.{IsChildless, entry_of}
use Rattle.audited_log.proofs.Telling.{going_told, is_birth_told, itself, step_told, unborn}
use Rattle.audited_log.proofs.Leading.{unled_of}

-- ---- answers

-- what is right where less is kept is right where more is
pub decides_more : (Old New : System → List Entry → Type 0) (told : Told)
    → ((system : System) (log : List Entry) → is_system system ≡ true → IsLegalBy MayStand system log → New system log → Old system log)
    → (o : Option Entry) → Decides MayStand Old told o → Decides MayStand New told o
decides_more Old New told more None decides = λ system log e valid legal keeps line may. decides system log e valid legal (more system log valid legal keeps) line may
decides_more Old New told more (Some e) decides = λ system log valid legal keeps. decides system log valid legal (more system log valid legal keeps)

-- the numbers of a line, the first of which is this
pub first_named : (ns : List ℕ) (n : ℕ) → first_number ns ≡ Some n → n ∷ behind_first ns ≡ ns
first_named [] n is = cc
first_named (m ∷ ms) n is = let same : m ≡ n = cc in λ i. sym same i ∷ ms

-- the entry of a birth
pub born_entry : (told : ℕ) (o : Option Born) (r : Option Answer) → IsOfBirth told o r → entry_of r ≡ option_map (λ (b : Born). b.entry) o
born_entry told None r is = ap entry_of is
born_entry told (Some b) r is = ap entry_of is.0

-- ---- one process

module _ (c : Common) (p : Pid) (a : Audited) where
  -- the entry with the line leads it there
  abbrev pub LedBy : Audited → Told → Entry → Type 0
  LedBy new told e = (system : System) (log : List Entry) → is_system system ≡ true → IsLegalBy MayStand system log → KeepsOne c p a system log → told_of e ≡ told → IsLedOf e system log p new

  -- so does the answer, where its entry bears no child
  pub leads_one : (new : Audited) (told : Told) → is_birth_told told.what ≡ false → (r : Option Answer) (x : Option Entry) → entry_of r ≡ x → IfSome r IsChildless
      → Decides MayStand (KeepsOne c p a) told x → ((e : Entry) → x ≡ Some e → LedBy new told e) → IfSome r (LeadsOne c p a new)
  leads_one new told other None x is child decides leads = tt
  leads_one new told other (Some r) x is child decides leads = λ system log valid legal keeps.
      let line : told_of r.entry ≡ told = (subst (λ o. Decides MayStand (KeepsOne c p a) told o) (sym is) decides system log valid legal keeps).0 in
      record {
        led = leads r.entry (sym is) system log valid legal keeps line;
        child = subst (λ o. BearsAs system log r.entry o) (sym child) (unborn (what r.entry) (ap (λ (t : Told). is_birth_told t.what) line ∙ other));
      }

  abbrev s : ProcState
  s = state_of a.process

  module _ (kept : Sender) (says : SaysSender p a c.fetches c.family kept) where
    pub sender : (system : System) (log : List Entry) → is_system system ≡ true → IsLegalBy MayStand system log → KeepsOne c p a system log → KeepsSender c.front c.limits p s kept system log
    sender system log valid legal keeps =
        says system log c.front c.limits valid (keeps.common).front (keeps.common).limits (keeps.common).fetches (keeps.common).family (keeps.one).audited

    pub audited_kept : (system : System) (log : List Entry) → is_system system ≡ true → IsLegalBy MayStand system log → KeepsOne c p a system log → KeepsAudited c.front c.limits p a kept system log
    audited_kept system log valid legal keeps = record { audited = (keeps.one).audited; sender = sender system log valid legal keeps }

    pub paged_kept : (system : System) (log : List Entry) → is_system system ≡ true → IsLegalBy MayStand system log → KeepsOne c p a system log
        → KeepsPaged c.front c.limits p a kept c.pager system log
    paged_kept system log valid legal keeps = (audited_kept system log valid legal keeps, (keeps.common).accounts)

    -- where it steps by the entry, its copy is of no use
    pub steps_led : (Kept : System → List Entry → Type 0) → ((system : System) (log : List Entry) → is_system system ≡ true → IsLegalBy MayStand system log → KeepsOne c p a system log
        → Kept system log)
        → (told : Told) (new : Audited) (e : Entry) → is_step_told p.0 told.what ≡ true → LeadsTo Kept p new e → LedBy new told e
    steps_led Kept more told new e is lead = λ system log valid legal keeps line.
        let steps : steps_by p (what e) ≡ true = step_told p (what e) ∙ ap (λ (t : Told). is_step_told p.0 t.what) line ∙ is in
        record {
          unended = (keeps.one).unended;
          led = λ goes. lead system log valid legal (more system log valid legal keeps);
          ahead = λ goes same. absurd (true≢false (sym steps ∙ (or_parts (steps_by p (what e)) (gets_letter p (what e)) same).0));
        }

    -- a page leaves it where it is
    pub page_led : (told : Told) (new : Audited) (e : Entry) → IsAhead (state_of new.process) new.ahead → LeadsTo (KeepsAudited c.front c.limits p a kept) p new e → LedBy new told e
    page_led told new e ahead lead = λ system log valid legal keeps line. record {
      unended = (keeps.one).unended;
      led = λ goes. lead system log valid legal (audited_kept system log valid legal keeps);
      ahead = λ goes same. ahead;
    }

    -- one that ends is led nowhere
    pub exit_led : (place at : ℕ) (by : ToldBy) (end : ToldEnd) (new : Audited) (e : Entry) → LedBy new (record { place = place; by = by; what = ToldExit p.0 at end }) e
    exit_led place at by end new e = λ system log valid legal keeps line.
        let ends : goes_on p (what e) ≡ false = going_told p (what e) ∙ ap (λ (t : Told). is_going_told p.0 t.what) line ∙ ap not (itself p.0) in
        record {
          unended = (keeps.one).unended;
          led = λ goes. absurd (true≢false (sym goes ∙ ends));
          ahead = λ goes same. absurd (true≢false (sym goes ∙ ends));
        }

    -- ---- births

    child_is : (w : What) (n at child end : ℕ) → told_what w ≡ ToldBirth n at child end → (q : Pid) → is_birth_of q w ≡ true → q.0 ≡ child
    child_is (Birth parent i kid j) n at child end line q is =
        let same : kid.0 ≡ child = cc in
        ap (λ (q : Pid). q.0) (sym (same_of kid q is)) ∙ same
    child_is (Rebackup to true recs) n at child end line q is = cc
    child_is (Rebackup to false recs) n at child end line q is = cc
    child_is _ n at child end line q is = absurd (true≢false (sym is))

    pub birth_leads : (place at child end : ℕ) (by : ToldBy) (n : Process) (o : Option Born) (r : Option Answer) → IsOfBirth child o r
        → Decides MayStand (KeepsOne c p a) (record { place = place; by = by; what = ToldBirth p.0 at child end }) (option_map (λ (b : Born). b.entry) o)
        → IfSome o (λ b. BearsChild c.front c.limits p kept s b (state_of n)) → IfSome r (LeadsOne c p a (record a { process = n }))
    birth_leads place at child end by n None r is decides bears = subst (λ o. IfSome o (LeadsOne c p a (record a { process = n }))) (sym is) tt
    birth_leads place at child end by n (Some b) r is decides bears =
        subst (λ o. IfSome o (LeadsOne c p a (record a { process = n }))) (sym is.0) (λ system log valid legal keeps.
        let line = (decides system log valid legal keeps).0 in
        let both = bears system log valid legal (sender system log valid legal keeps) in
        record {
          led = steps_led (KeepsOne c p a) (λ system log valid legal keeps. keeps) (record {
            place = place;
            by = by;
            what = ToldBirth p.0 at child end;
          }) (record a { process = n }) b.entry (itself p.0)
              (λ system log valid legal keeps. leads_on.stands system log b.entry p a (record a { process = n }) (standing_told p (what b.entry)
              ∙ ap (λ (t : Told). is_standing_told p.0 t.what) (decides system log valid legal keeps).0 ∙ itself p.0) (keeps.one).audited (refl, refl)
              ((bears system log valid legal (sender system log valid legal keeps)).0).there) system log valid legal keeps line;
          child = λ q born.
              let number : q.0 ≡ (((b.child).small).pid).0 = child_is (what b.entry) p.0 at child end (ap (λ (t : Told). t.what) line) q born ∙ sym is.1 in
              let me : ((b.child).small).pid ≡ q = λ i. record { 0 = sym number i } in
              subst (λ (q : Pid). process_after system (log ++ b.entry ∷ []) q ≡ Some (state_of b.child)) me (both.1).there;
        })

  -- ---- pages that are asked for, and new backups of who waits

  pub fetched_kept : (system : System) (log : List Entry) → is_system system ≡ true → IsLegalBy MayStand system log → KeepsOne c p a system log → KeepsFetched c.front p a c.fetches system log
  fetched_kept system log valid legal keeps = record { before = (keeps.common).front; fetched = (keeps.common).fetches; audited = (keeps.one).audited }

  pub recorded_kept : (system : System) (log : List Entry) → is_system system ≡ true → IsLegalBy MayStand system log → KeepsOne c p a system log
      → KeepsRecorded c.front p a c.family c.records system log
  recorded_kept system log valid legal keeps = record { before = (keeps.common).front; family = (keeps.common).family; records = (keeps.common).records; audited = (keeps.one).audited }

  pub still_led : (told : Told) (e : Entry) → is_step_told p.0 told.what ≡ false → LedBy a told e
  still_led told e is = λ system log valid legal keeps line. unled_of system log e p a (step_told p (what e) ∙ ap (λ (t : Told). is_step_told p.0 t.what) line ∙ is) keeps.one
