-- Where a process started, entry by entry.
use Rattle.std.proofs.Common.{◌≡◌, ℕ, refl, sym, ◌∙◌, ap, subst, List, [], ◌∷◌, ◌++◌, Bool, true, false, cond, ◌||◌, eq-eqb, Option, Some, None, is_some, true≢false}
use Rattle.std.specs.Prelude.{option_map}
use Rattle.std.proofs.lemmas.Option.{same_Some}
use Rattle.t32_base.specs.declared.process.Pid.{Pid}
use Rattle.t32_base.specs.declared.letter.BackRec.{BackRec}
use Rattle.t32_base.proofs.Facts.{or_false, or_true}
use Rattle.sys_text.specs.declared.system.System.{System}
use Rattle.sys_text.specs.Valid.{is_system}
use Rattle.proc_state.specs.State.{ProcState}
use Rattle.bus_msg.specs.declared.entry.What.TheVariants.{Birth}
use Rattle.bus_msg.specs.declared.entry.Entry.{Entry}
use Rattle.bus_msg.specs.PlacedAfter.{what}
use Rattle.cert_sched.specs.Deeds.{is_birth_of, is_cut, start_of, starts}
use Rattle.cert_sched.specs.Record.{backup_record, has_state, record_from}
use Rattle.cert_sched.specs.Legal.{IsLegalBy, Stands}
use Rattle.cert_sched.specs.Schedule.{plain_after, process_after}
use Rattle.cert_sched.proofs.BornLaws.{child_absent}
use Rattle.cert_sched.proofs.RecordLaws.{has_state-snoc, start_of-snoc}
use Rattle.cert_sched.proofs.StatedLaws.{stated_there}
use Rattle.log_laws.specs.records.Kept.{record_at_boot}
use Rattle.log_laws.proofs.letters.LogReads.{itself}
use Rattle.log_laws.proofs.records.BootLaws.{boot_record}
use Rattle.log_cuts.specs.declared.start.Start.{Start}
use Rattle.log_cuts.specs.Start.{BeginsAt, KeepsStart, LeavesStart, StartsAt}

starts_there : (s : ProcState) (start : Start) (o : Option ProcState) → o ≡ Some s → StartsAt s start → (t : ProcState) → o ≡ Some t → StartsAt t start
starts_there s start o there at t is = subst (λ (t : ProcState). StartsAt t start) (same_Some s t (sym there ∙ is)) at

-- at boot a process has a state in its record
stated_at_boot : (system : System) (p : Pid) (s : ProcState) → is_system system ≡ true → process_after system [] p ≡ Some s → has_state system [] p ≡ true
unfolding backup_record plain_after
stated_at_boot system p s valid there = by_state (has_state system [] p) refl (ap (option_map (λ (r : BackRec). r.state)) (sym (ap (option_map (record_from system [] p)) there) ∙ boot_record system p valid ∙ ap (option_map (λ (s : ProcState). record_at_boot (p, s))) there))
  where
    by_state : (b : Bool) → has_state system [] p ≡ b → Some (cond (has_state system [] p) (Some s.small) None) ≡ Some (Some s.small) → b ≡ true
    by_state true is same = refl
    by_state false is same = let none : None ≡ Some s.small = same_Some None (Some s.small) (sym (ap (λ b. Some (cond b (Some s.small) None)) is) ∙ same) in cc

-- and a child that is born has none
unstated : (system : System) (log : List Entry) (e : Entry) (parent : Pid) (at : ℕ) (child : Pid) (end : ℕ) → is_system system ≡ true → IsLegalBy Stands system log → Stands system log e → what e ≡ Birth parent at child end
    → has_state system (log ++ e ∷ []) child ≡ false
unstated system log e parent at child end valid legal stands is =
    has_state-snoc system log e child ∙ ap (λ w. has_state system log child || is_cut child w) is ∙ or_false (has_state system log child) ∙ by_state (has_state system log child) refl
  where
    by_state : (b : Bool) → has_state system log child ≡ b → b ≡ false
    by_state true stated = absurd (true≢false (sym (stated_there Stands itself system log child valid legal stated) ∙ ap is_some (child_absent system log e parent at child end is stands.applies)))
    by_state false stated = refl

begins : (system : System) (log : List Entry) (e : Entry) (p : Pid) (s : ProcState) (start : Start) → StartsAt s start → starts p e ≡ true → process_after system (log ++ e ∷ []) p ≡ Some s → has_state system (log ++ e ∷ []) p ≡ start.stated
    → KeepsStart p start system (log ++ e ∷ [])
begins system log e p s start at starting there stated =
    let now : start_of system (log ++ e ∷ []) p ≡ Some s = start_of-snoc system log e p ∙ ap (λ b. cond b (process_after system (log ++ e ∷ []) p) (start_of system log p)) starting ∙ there in
    record { stated = sym stated; at = starts_there s start (start_of system (log ++ e ∷ []) p) now at }

pub begins_at : (s : ProcState) (start : Start) → StartsAt s start → BeginsAt s start
begins_at s start at = record {
  boot = λ system p valid stated there. record { stated = stated ∙ sym (stated_at_boot system p s valid there); at = starts_there s start (start_of system [] p) there at };
  cut = λ system log e p stated cuts there.
      begins system log e p s start at (ap (λ b. b || is_birth_of p (what e)) cuts) there (has_state-snoc system log e p ∙ ap (λ b. has_state system log p || b) cuts ∙ or_true (has_state system log p) ∙ sym stated);
  born = λ system log e parent n child end valid legal stands is stated there.
      let own : starts child e ≡ true = ap (λ w. is_cut child w || is_birth_of child w) is ∙ eq-eqb child.0 child.0 refl in
      begins system log e child s start at own there (unstated system log e parent n child end valid legal stands is ∙ sym stated);
}

uncut : (a b : Bool) → (a || b) ≡ false → a ≡ false
uncut true b is = is
uncut false b is = refl

pub leaves_start : LeavesStart
leaves_start system log e p start still keeps =
    let same : start_of system (log ++ e ∷ []) p ≡ start_of system log p = start_of-snoc system log e p ∙ ap (λ b. cond b (process_after system (log ++ e ∷ []) p) (start_of system log p)) still in
    record {
      stated = keeps.stated ∙ sym (has_state-snoc system log e p ∙ ap (λ b. has_state system log p || b) (uncut (is_cut p (what e)) (is_birth_of p (what e)) still) ∙ or_false (has_state system log p));
      at = λ s is. keeps.at s (sym same ∙ is);
    }
