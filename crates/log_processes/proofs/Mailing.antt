-- When a letter may stand next.
use Rattle.std.proofs.Common.{◌≡◌, ◌-◌, refl, sym, ◌∙◌, ap, subst, List, true, false, ◌&&◌, Some, None, is_some, true≢false}
use Rattle.std.specs.Prelude.{option_map}
use Rattle.std.specs.Option.{option_map_or}
use Rattle.std.proofs.lemmas.Bool.{and_parts}
use Rattle.std.proofs.lemmas.Option.{same_Some}
use Rattle.t32_base.specs.declared.process.Pid.{Pid}
use Rattle.t32_base.specs.declared.process.ClusterNo.{ClusterNo}
use Rattle.t32_base.specs.declared.letter.Letter.{Letter}
use Rattle.sys_text.specs.declared.system.System.{System}
use Rattle.sys_text.specs.Valid.{is_system}
use Rattle.proc_state.specs.State.{ProcState}
use Rattle.sys_calls.specs.declared.steps.Emission.{Emission}
use Rattle.sys_calls.specs.declared.steps.Emission.TheVariants.{Mail as Sent}
use Rattle.sys_calls.specs.Next.{last_emission}
use Rattle.bus_msg.specs.declared.entry.What.{What}
use Rattle.bus_msg.specs.declared.entry.What.TheVariants.{Mail, Rebackup}
use Rattle.bus_msg.specs.declared.entry.By.TheVariants.{Cluster}
use Rattle.bus_msg.specs.declared.entry.Entry.{Entry}
use Rattle.bus_msg.specs.Places.{Places}
use Rattle.bus_msg.specs.PlacedAfter.{what}
use Rattle.cert_sched.specs.Schedule.{placement}
use Rattle.cert_sched.specs.Steps.{emission_at, process_of}
use Rattle.cert_sched.specs.Rules.{awaits_pages, has_its_pages, holds_of, is_by_home, is_by_right, is_within_limits, keeps_limits}
use Rattle.cert_sched.specs.Kinds.{IsSent, KindHolds}
use Rattle.cert_sched.specs.Legal.{IsLegalBy, KeepsLimits, MayStand}
use Rattle.cert_sched.proofs.StepLaws.{is_sent, sent_applies, sent_is_own}
use Rattle.entry_lines.specs.declared.told.ToldLetter.{ToldLetter}
use Rattle.entry_lines.specs.declared.told.ToldWhat.TheVariants.{Mail as ToldMail}
use Rattle.entry_lines.specs.declared.told.Told.{Told}
use Rattle.entry_lines.specs.Told.{told_letter, told_of, told_what}
use Rattle.log_audit.specs.Front.{FrontState}
use Rattle.log_audit.proofs.Losing.{next_passes, next_placed}
use Rattle.log_processes.specs.declared.sender.Head.{Head}
use Rattle.log_processes.specs.declared.sender.Limits.{Limits}
use Rattle.log_processes.specs.declared.sender.Sender.{Sender}
use Rattle.log_processes.specs.Letters.{AnswersLetter, Writes, letter_may}
use Rattle.log_processes.specs.Sending.{KeepsSender, Leads, home_may, is_within, sent_entry}
use Rattle.log_processes.specs.Telling.{is_letter_told}
use Rattle.log_processes.proofs.Sent.{home_there, limits_then, may_send, sent_then, told_limits}
use Rattle.log_processes.proofs.Tells.{is_letter, letter_is}

sent_one : (a b : Letter) → Sent a ≡ Sent b → a ≡ b
sent_one a b is = cc

module _ (front : FrontState) (limits : Limits) (head : Head) (kept : Sender) (s : ProcState) (told : ToldLetter) where
  -- ---- it may stand next

  pub letter_follows : (home : ClusterNo) (letter : Letter) (t : ProcState) → home_may front head kept ≡ Some home → last_emission (head.at - (s.small).steps) s ≡ Some (Sent letter, t) → letter_may limits kept t told letter ≡ true
      → AnswersLetter front limits head kept s told (Some (sent_entry front head home (Mail head.at letter)))
  letter_follows home letter t found sends may system log valid legal keeps =
      let m = may_send front head kept home found in
      let both = and_parts (is_letter_told told letter) (is_within limits kept t) may in
      let w : What = Mail head.at letter in
      let e : Entry = sent_entry front head home w in
      let before = keeps.before in
      let sent : emission_at system log head.pid head.at ≡ Some (Sent letter, t) = sent_then system log head.pid s head.at (keeps.process).there ∙ sends in
      let own : letter.from ≡ head.pid = sent_is_own system log head.pid head.at letter t sent in
      let same : told_letter letter letter.to ≡ told = letter_is told letter both.0 in
      let within : is_within_limits system log w head.pid ≡ true =
      ap (λ (q : Pid). option_map_or (keeps_limits system log head.pid) (option_map (λ (r : Emission × ProcState). r.1) (emission_at system log q head.at)) false) own
      ∙ told_limits system log head.pid head.at (Sent letter) t sent ∙ limits_then system log front limits head.pid s kept head.at (Sent letter) t valid legal keeps sent ∙ both.1 in (
        λ i. record { place = head.place; by = sym (m.home_is).told i; what = ToldMail (own i).0 head.at (same i) },
        record {
          stands = record {
            placed = next_placed front head.place m.next system log w before;
            by_right = ap (λ (q : Pid). is_by_home (placement system log) (Cluster home) (Some q)) own ∙ ap (λ (q : Places). is_by_home q (Cluster home) (Some head.pid)) (sym before.places) ∙ (m.home_is).right;
            applies = sent_applies system log e head.pid head.at (Sent letter) t sent (own, refl);
            kind = ap (λ (q : Pid). option_map (λ (r : Emission × ProcState). r.0) (emission_at system log q head.at)) own ∙ ap (option_map (λ (r : Emission × ProcState). r.0)) sent;
          };
          limits = ap (is_within_limits system log w) own ∙ within;
          new_page = refl;
          pages = ap (has_its_pages system log) own ∙ sym keeps.whole ∙ m.whole;
        },
      )

  -- and the process stands behind that step
  pub letter_leads : (home : ClusterNo) (letter : Letter) (t : ProcState) → last_emission (head.at - (s.small).steps) s ≡ Some (Sent letter, t) → Leads front limits head.pid kept s (sent_entry front head home (Mail head.at letter)) t
  letter_leads home letter t sends system log keeps =
      let sent : emission_at system log head.pid head.at ≡ Some (Sent letter, t) = sent_then system log head.pid s head.at (keeps.process).there ∙ sends in
      let own : letter.from ≡ head.pid = sent_is_own system log head.pid head.at letter t sent in
      ap (λ (q : Pid). option_map (λ (r : Emission × ProcState). r.1) (emission_at system log q head.at)) own ∙ ap (option_map (λ (r : Emission × ProcState). r.1)) sent

  -- ---- where it stands next the tests pass

  record LetterSaid (w : What) : Type 0 where
    pub letter : Letter
    pub is : w ≡ Mail head.at letter
    pub from : letter.from ≡ head.pid
    pub tells : told_letter letter letter.to ≡ told

  letter_said : (w : What) → told_what w ≡ ToldMail (head.pid).0 head.at told → LetterSaid w
  letter_said (Mail at letter) line =
      let p : (letter.from).0 ≡ (head.pid).0 = cc in
      let n : at ≡ head.at = cc in
      let t : told_letter letter letter.to ≡ told = cc in
      record { letter = letter; is = λ i. Mail (n i) letter; from = λ i. record { 0 = p i }; tells = t }
  letter_said (Rebackup to true recs) line = cc
  letter_said (Rebackup to false recs) line = cc
  letter_said _ line = cc

  record Passes : Type 0 where
    pub home : is_some (home_may front head kept) ≡ true
    pub letter : Letter
    pub after : ProcState
    pub sends : last_emission (head.at - (s.small).steps) s ≡ Some (Sent letter, after)
    pub may : letter_may limits kept after told letter ≡ true

  passes : (system : System) (log : List Entry) (e : Entry) → is_system system ≡ true → IsLegalBy MayStand system log → KeepsSender front limits head.pid s kept system log
      → told_of e ≡ record { place = head.place; by = head.by; what = ToldMail (head.pid).0 head.at told } → MayStand system log e → Passes
  passes system log e valid legal keeps line may =
      let said = letter_said (what e) (ap (λ (t : Told). t.what) line) in
      let before = keeps.before in
      let stands = may.stands in
      let holds : IsSent system log (said.letter).from head.at (Sent said.letter) = subst (KindHolds system log e) said.is stands.kind in
      let sent = is_sent system log head.pid head.at (Sent said.letter) (subst (λ (q : Pid). IsSent system log q head.at (Sent said.letter)) said.from holds) in
      let next = next_passes system log front e head.place before (ap (λ (t : Told). t.place) line) stands in
      let right : is_by_home front.places (e.post).by (Some head.pid) ≡ true =
      ap (λ (q : Places). is_by_home q (e.post).by (Some head.pid)) before.places ∙ ap (λ (q : Pid). is_by_home (placement system log) (e.post).by (Some q)) (sym said.from)
      ∙ sym (ap (is_by_right (placement system log) (e.post).by) said.is) ∙ stands.by_right in
      let whole : kept.whole ≡ true =
      keeps.whole ∙ ap (has_its_pages system log) (sym said.from) ∙ subst (λ (w : What). holds_of (awaits_pages w) (process_of w) (has_its_pages system log) ≡ true) said.is may.pages in
      let limited : is_within_limits system log (Mail head.at said.letter) (said.letter).from ≡ true = subst (KeepsLimits system log) said.is may.limits in
      let within : is_within limits kept sent.after ≡ true =
      sym (limits_then system log front limits head.pid s kept head.at (Sent said.letter) sent.after valid legal keeps sent.is)
      ∙ sym (told_limits system log head.pid head.at (Sent said.letter) sent.after sent.is)
      ∙ ap (λ (q : Pid). option_map_or (keeps_limits system log q) (option_map (λ (r : Emission × ProcState). r.1) (emission_at system log q head.at)) false) (sym said.from) ∙ limited in
      record {
        home = home_there front head kept (e.post).by next whole (ap (λ (t : Told). t.by) line) right;
        letter = said.letter;
        after = sent.after;
        sends = sym (sent_then system log head.pid s head.at (keeps.process).there) ∙ sent.is;
        may = λ i. is_letter told said.letter said.tells i && within i;
      }

  refuse : (Passes → ⊥) → AnswersLetter front limits head kept s told None
  refuse never system log e valid legal keeps line may = never (passes system log e valid legal keeps line may)

  pub letter_unsent : home_may front head kept ≡ None → AnswersLetter front limits head kept s told None
  letter_unsent none = refuse (λ p. true≢false (sym p.home ∙ ap is_some none))

  pub letter_unmade : (t : ProcState) → Writes (head.at - (s.small).steps) s None t → AnswersLetter front limits head kept s told None
  letter_unmade t none = refuse (λ p. none p.letter p.after p.sends)

  pub letter_refused : (letter : Letter) (t : ProcState) → last_emission (head.at - (s.small).steps) s ≡ Some (Sent letter, t) → letter_may limits kept t told letter ≡ false → AnswersLetter front limits head kept s told None
  letter_refused letter t sends refused = refuse by_parts
    where
      by_parts : Passes → ⊥
      by_parts p =
          let both : Some (Sent letter, t) ≡ Some (Sent p.letter, p.after) = sym sends ∙ p.sends in
          let pairs : (Sent letter, t) ≡ (Sent p.letter, p.after) = same_Some (Sent letter, t) (Sent p.letter, p.after) both in
          let letters : letter ≡ p.letter = sent_one letter p.letter (ap (λ (r : Emission × ProcState). r.0) pairs) in
          let ts : t ≡ p.after = ap (λ (r : Emission × ProcState). r.1) pairs in
          true≢false (sym p.may ∙ (λ i. letter_may limits kept (sym ts i) told (sym letters i)) ∙ refused)
