-- When an exit may stand next.
use Rattle.std.proofs.Common.{◌≡◌, ◌-◌, refl, sym, ◌∙◌, ap, subst, List, Bool, true, false, not, ◌&&◌, Some, None, is_some, true≢false}
use Rattle.std.specs.Prelude.{option_map}
use Rattle.std.proofs.lemmas.Bool.{and_parts}
use Rattle.std.proofs.lemmas.Option.{same_Some}
use Rattle.t32_base.specs.declared.process.ClusterNo.{ClusterNo}
use Rattle.t32_base.specs.declared.process.End.{End}
use Rattle.sys_text.specs.declared.system.System.{System}
use Rattle.sys_text.specs.Valid.{is_system}
use Rattle.proc_state.specs.State.{ProcState}
use Rattle.sys_calls.specs.declared.steps.Emission.{Emission}
use Rattle.sys_calls.specs.declared.steps.Emission.TheVariants.{Exit as Ended}
use Rattle.sys_calls.specs.Next.{last_emission}
use Rattle.bus_msg.specs.declared.entry.What.{What}
use Rattle.bus_msg.specs.declared.entry.What.TheVariants.{Exit, Rebackup}
use Rattle.bus_msg.specs.declared.entry.By.TheVariants.{Cluster}
use Rattle.bus_msg.specs.declared.entry.Entry.{Entry}
use Rattle.bus_msg.specs.Places.{Places}
use Rattle.bus_msg.specs.PlacedAfter.{what}
use Rattle.cert_sched.specs.Schedule.{placement}
use Rattle.cert_sched.specs.Steps.{emission_at, process_of}
use Rattle.cert_sched.specs.Rules.{awaits_pages, has_its_pages, holds_of, is_by_home, is_by_right}
use Rattle.cert_sched.specs.Kinds.{ChildrenSynced, IsSent, KindHolds}
use Rattle.cert_sched.specs.Legal.{IsLegalBy, KeepsLimits, MayStand}
use Rattle.cert_sched.proofs.StepLaws.{is_sent, sent_applies}
use Rattle.entry_lines.specs.declared.told.ToldEnd.{ToldEnd}
use Rattle.entry_lines.specs.declared.told.ToldWhat.TheVariants.{Exit as ToldExit}
use Rattle.entry_lines.specs.declared.told.Told.{Told}
use Rattle.entry_lines.specs.Told.{told_end, told_of, told_what}
use Rattle.log_audit.specs.Front.{FrontState}
use Rattle.log_audit.proofs.Losing.{next_passes, next_placed}
use Rattle.log_processes.specs.declared.sender.Head.{Head}
use Rattle.log_processes.specs.declared.sender.Limits.{Limits}
use Rattle.log_processes.specs.declared.sender.Sender.{Sender}
use Rattle.log_processes.specs.Exits.{AnswersExit, Exits, exit_may}
use Rattle.log_processes.specs.Sending.{KeepsSender, Leads, home_may, is_within, sent_entry}
use Rattle.log_processes.specs.Telling.{is_end_told}
use Rattle.log_processes.proofs.Sent.{home_there, limits_then, may_send, sent_then, told_limits}
use Rattle.log_processes.proofs.Tells.{end_is, is_end}

not_true : (b : Bool) → not b ≡ true → b ≡ false
not_true true is = absurd (true≢false (sym is))
not_true false is = refl

sent_one : (a b : End) → Ended a ≡ Ended b → a ≡ b
sent_one a b is = cc

module _ (front : FrontState) (limits : Limits) (head : Head) (kept : Sender) (s : ProcState) (told : ToldEnd) where
  -- ---- it may stand next

  pub exit_follows : (home : ClusterNo) (end : End) (t : ProcState) → home_may front head kept ≡ Some home → last_emission (head.at - (s.small).steps) s ≡ Some (Ended end, t) → exit_may limits kept t told end ≡ true
      → AnswersExit front limits head kept s told (Some (sent_entry front head home (Exit head.pid head.at end)))
  exit_follows home end t found sends may system log valid legal keeps =
      let m = may_send front head kept home found in
      let most = and_parts (not kept.parent && is_end_told told end) (is_within limits kept t) may in
      let first = and_parts (not kept.parent) (is_end_told told end) most.0 in
      let w : What = Exit head.pid head.at end in
      let e : Entry = sent_entry front head home w in
      let before = keeps.before in
      let sent : emission_at system log head.pid head.at ≡ Some (Ended end, t) = sent_then system log head.pid s head.at (keeps.process).there ∙ sends in
      let same : told_end end ≡ told = end_is told end first.1 in (
        λ i. record { place = head.place; by = sym (m.home_is).told i; what = ToldExit (head.pid).0 head.at (same i) },
        record {
          stands = record {
            placed = next_placed front head.place m.next system log w before;
            by_right = ap (λ (q : Places). is_by_home q (Cluster home) (Some head.pid)) (sym before.places) ∙ (m.home_is).right;
            applies = sent_applies system log e head.pid head.at (Ended end) t sent refl;
            kind = (ap (option_map (λ (r : Emission × ProcState). r.0)) sent, sym keeps.parent ∙ not_true kept.parent first.0);
          };
          limits = told_limits system log head.pid head.at (Ended end) t sent ∙ limits_then system log front limits head.pid s kept head.at (Ended end) t valid legal keeps sent ∙ most.1;
          new_page = refl;
          pages = sym keeps.whole ∙ m.whole;
        },
      )

  -- and the process stands behind that step
  pub exit_leads : (home : ClusterNo) (end : End) (t : ProcState) → last_emission (head.at - (s.small).steps) s ≡ Some (Ended end, t) → Leads front limits head.pid kept s (sent_entry front head home (Exit head.pid head.at end)) t
  exit_leads home end t sends system log keeps = ap (option_map (λ (r : Emission × ProcState). r.1)) (sent_then system log head.pid s head.at (keeps.process).there ∙ sends)

  -- ---- where it stands next the tests pass

  record ExitSaid (w : What) : Type 0 where
    pub end : End
    pub is : w ≡ Exit head.pid head.at end
    pub tells : told_end end ≡ told

  exit_said : (w : What) → told_what w ≡ ToldExit (head.pid).0 head.at told → ExitSaid w
  exit_said (Exit pid at end) line =
      let p : pid.0 ≡ (head.pid).0 = cc in
      let n : at ≡ head.at = cc in
      let t : told_end end ≡ told = cc in
      record { end = end; is = λ i. Exit (record { 0 = p i }) (n i) end; tells = t }
  exit_said (Rebackup to true recs) line = cc
  exit_said (Rebackup to false recs) line = cc
  exit_said _ line = cc

  record Passes : Type 0 where
    pub home : is_some (home_may front head kept) ≡ true
    pub end : End
    pub after : ProcState
    pub sends : last_emission (head.at - (s.small).steps) s ≡ Some (Ended end, after)
    pub may : exit_may limits kept after told end ≡ true

  passes : (system : System) (log : List Entry) (e : Entry) → is_system system ≡ true → IsLegalBy MayStand system log → KeepsSender front limits head.pid s kept system log
      → told_of e ≡ record { place = head.place; by = head.by; what = ToldExit (head.pid).0 head.at told } → MayStand system log e → Passes
  passes system log e valid legal keeps line may =
      let said = exit_said (what e) (ap (λ (t : Told). t.what) line) in
      let before = keeps.before in
      let stands = may.stands in
      let holds : IsSent system log head.pid head.at (Ended said.end) × ChildrenSynced system log head.pid = subst (KindHolds system log e) said.is stands.kind in
      let sent = is_sent system log head.pid head.at (Ended said.end) holds.0 in
      let next = next_passes system log front e head.place before (ap (λ (t : Told). t.place) line) stands in
      let right : is_by_home front.places (e.post).by (Some head.pid) ≡ true =
      ap (λ (q : Places). is_by_home q (e.post).by (Some head.pid)) before.places ∙ sym (ap (is_by_right (placement system log) (e.post).by) said.is) ∙ stands.by_right in
      let whole : kept.whole ≡ true = keeps.whole ∙ subst (λ (w : What). holds_of (awaits_pages w) (process_of w) (has_its_pages system log) ≡ true) said.is may.pages in
      let within : is_within limits kept sent.after ≡ true =
      sym (limits_then system log front limits head.pid s kept head.at (Ended said.end) sent.after valid legal keeps sent.is)
      ∙ sym (told_limits system log head.pid head.at (Ended said.end) sent.after sent.is) ∙ subst (KeepsLimits system log) said.is may.limits in
      let childless : kept.parent ≡ false = keeps.parent ∙ holds.1 in
      record {
        home = home_there front head kept (e.post).by next whole (ap (λ (t : Told). t.by) line) right;
        end = said.end;
        after = sent.after;
        sends = sym (sent_then system log head.pid s head.at (keeps.process).there) ∙ sent.is;
        may = λ i. (not (childless i) && is_end told said.end said.tells i) && within i;
      }

  refuse : (Passes → ⊥) → AnswersExit front limits head kept s told None
  refuse never system log e valid legal keeps line may = never (passes system log e valid legal keeps line may)

  pub exit_unsent : home_may front head kept ≡ None → AnswersExit front limits head kept s told None
  exit_unsent none = refuse (λ p. true≢false (sym p.home ∙ ap is_some none))

  pub exit_unmade : (t : ProcState) → Exits (head.at - (s.small).steps) s None t → AnswersExit front limits head kept s told None
  exit_unmade t none = refuse (λ p. none p.end p.after p.sends)

  pub exit_refused : (end : End) (t : ProcState) → last_emission (head.at - (s.small).steps) s ≡ Some (Ended end, t) → exit_may limits kept t told end ≡ false → AnswersExit front limits head kept s told None
  exit_refused end t sends refused = refuse by_parts
    where
      by_parts : Passes → ⊥
      by_parts p =
          let both : Some (Ended end, t) ≡ Some (Ended p.end, p.after) = sym sends ∙ p.sends in
          let pairs : (Ended end, t) ≡ (Ended p.end, p.after) = same_Some (Ended end, t) (Ended p.end, p.after) both in
          let ends : end ≡ p.end = sent_one end p.end (ap (λ (r : Emission × ProcState). r.0) pairs) in
          let ts : t ≡ p.after = ap (λ (r : Emission × ProcState). r.1) pairs in
          true≢false (sym p.may ∙ (λ i. exit_may limits kept (sym ts i) told (sym ends i)) ∙ refused)
