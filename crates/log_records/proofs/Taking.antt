-- Where the records were those of a log, they are those of the log with an entry more.
use Rattle.std.proofs.Common.{◌≡◌, ℕ, refl, sym, ◌∙◌, ap, subst, arith, List, [], ◌∷◌, ◌++◌, map, Bool, true, false, cond, not, ◌||◌, eqb, eqb-true, eq-eqb, Option, Some, None, is_some}
use Rattle.std.specs.Prelude.{option_map}
use Rattle.std.specs.List.{list_any}
use Rattle.std.proofs.lemmas.Bool.Decides.{nat_tests}
use Rattle.t32_base.specs.declared.process.Pid.{Pid}
use Rattle.t32_base.specs.declared.process.ClusterNo.{ClusterNo}
use Rattle.t32_base.specs.declared.process.End.{End}
use Rattle.t32_base.specs.declared.letter.Letter.{Letter}
use Rattle.t32_base.specs.declared.letter.BackRec.{BackRec}
use Rattle.t32_base.specs.Small.{SmallState}
use Rattle.t32_base.proofs.Facts.{same_pid_of}
use Rattle.sys_text.specs.declared.system.System.{System}
use Rattle.sys_text.specs.Valid.{is_system}
use Rattle.bus_msg.specs.declared.entry.What.{What}
use Rattle.bus_msg.specs.declared.entry.What.TheVariants.{Mail, Birth, Exit, Sync, Crash, Rebackup}
use Rattle.bus_msg.specs.declared.entry.Entry.{Entry}
use Rattle.bus_msg.specs.declared.placed.Placed.{Placed}
use Rattle.bus_msg.specs.Places.{Places, same_pid, unended_at}
use Rattle.bus_msg.specs.PlacedAfter.{what, placed_after, after_loss, after_rebackup, after_sync}
use Rattle.backup_records.specs.Records.{after_birth, counted_by_sender, cut_of_synced, record_after, record_in, saved_by_receiver, with_cut, with_record}
use Rattle.backup_records.proofs.RecordLaws.{counted_pid, record_mapped, saved_pid}
use Rattle.backup_records.proofs.BirthLaws.{birth-child, birth-other, record_put, record_put-other}
use Rattle.cert_sched.specs.Schedule.{placement}
use Rattle.cert_sched.specs.Record.{backup_record}
use Rattle.cert_sched.specs.Kinds.{BirthHolds, KindHolds}
use Rattle.cert_sched.specs.Rules.{is_by_right}
use Rattle.cert_sched.specs.Legal.{IsLegalBy, Stands}
use Rattle.cert_sched.proofs.LogLaws.{IsLegal-before, IsLegal-last, placement-snoc}
use Rattle.cert_sched.proofs.FamilyLaws.{Families, exit_elsewhere, exit_there, families, found_child}
use Rattle.cert_sched.proofs.FreshLaws.{BornRightly, born_rightly}
use Rattle.cert_sched.proofs.UnendedLaws.{Keeps, backup_keeps, loss_keeps, sync_keeps, unended_map}
use Rattle.log_laws.specs.records.Kept.{is_renewed}
use Rattle.log_laws.proofs.births.NewBirth.{child_apart}
use Rattle.log_laws.proofs.records.Backed.{record_there}
use Rattle.log_laws.proofs.records.BirthRecords.{child_record, unended_beside}
use Rattle.log_laws.proofs.records.Named.{named_in_log, records_are}
use Rattle.log_laws.proofs.records.OneRecord.{record_follows}
use Rattle.log_laws.proofs.records.Standing.{itself}
use Rattle.log_records.specs.Records.{AreRecordsOf, TakesEntry, all_after, with_renewed}
use Rattle.log_records.proofs.Found.{found_passing}

letter_pid : (letter : Letter) (r : BackRec) → (counted_by_sender letter (saved_by_receiver letter r)).pid ≡ r.pid
letter_pid letter r = counted_pid letter (saved_by_receiver letter r) ∙ saved_pid letter r

cut_pid : (q : Pid) (small : SmallState) (read : List ℕ) (r : BackRec) → (cut_of_synced q small read r).pid ≡ r.pid
cut_pid q small read r = by_test (same_pid q r.pid)
  where
    by_test : (b : Bool) → (cond b (with_cut small read r) r).pid ≡ r.pid
    by_test true = refl
    by_test false = refl

turned : (m n : ℕ) → eqb m n ≡ false → eqb n m ≡ false
turned m n h = grind (arith, nat_tests)

-- an entry that changes no record leaves each
same_each : (f : BackRec → BackRec) → ((r : BackRec) → f r ≡ r) → (o : Option BackRec) → o ≡ option_map f o
same_each f same None = refl
same_each f same (Some r) = ap Some (sym (same r))

module _ (system : System) (log : List Entry) (e : Entry) (recs : List BackRec) (valid : is_system system ≡ true) (legal : IsLegalBy Stands system (log ++ e ∷ []))
    (are : AreRecordsOf system log recs) where
  abbrev now : Places
  now = placement system log

  -- what is to be found of a process after the entry
  abbrev due : Pid → Option BackRec
  due p = cond (is_some (unended_at (placement system (log ++ e ∷ [])) p)) (backup_record system (log ++ e ∷ []) p) None

  after_is : (w : What) → what e ≡ w → (p : Pid) → unended_at (placement system (log ++ e ∷ [])) p ≡ unended_at (placed_after now w) p
  after_is w is p = ap (λ places. unended_at places p) (placement-snoc system log e ∙ ap (placed_after now) is)

  -- a record that the entry changes in its place, of a process that ends no more than before
  changed : (w : What) → what e ≡ w → (new : List BackRec) (p : Pid) → is_renewed p w ≡ false → is_some (unended_at (placement system (log ++ e ∷ [])) p) ≡ is_some (unended_at now p)
      → record_in new p ≡ option_map (record_after w) (record_in recs p) → record_in new p ≡ due p
  changed w is new p unrenewed same found = by_unended (is_some (unended_at now p)) refl
    where
      by_unended : (b : Bool) → is_some (unended_at now p) ≡ b → record_in new p ≡ due p
      by_unended true there =
          found
          ∙ ap (option_map (record_after w)) (are p ∙ ap (λ b. cond b (backup_record system log p) None) there)
          ∙ ap (λ x. option_map (record_after x) (backup_record system log p)) (sym is)
          ∙ sym (record_follows Stands itself system log e p valid legal (ap (is_renewed p) is ∙ unrenewed) there)
          ∙ ap (λ b. cond b (backup_record system (log ++ e ∷ []) p) None) (sym (same ∙ there))
      by_unended false there =
          found
          ∙ ap (option_map (record_after w)) (are p ∙ ap (λ b. cond b (backup_record system log p) None) there)
          ∙ ap (λ b. cond b (backup_record system (log ++ e ∷ []) p) None) (sym (same ∙ there))

  -- a change of each place leaves who has ended
  as_many : (f : Placed → Placed) → Keeps f → (w : What) → what e ≡ w → (placed_after now w).placed ≡ map f now.placed → (p : Pid)
      → is_some (unended_at (placement system (log ++ e ∷ [])) p) ≡ is_some (unended_at now p)
  as_many f keeps w is placed p = ap is_some (after_is w is p ∙ unended_map f keeps now (placed_after now w) placed p) ∙ by_found (unended_at now p)
    where
      by_found : (o : Option Placed) → is_some (option_map f o) ≡ is_some o
      by_found None = refl
      by_found (Some q) = refl

  after_exit : (q : Pid) (at : ℕ) (end : End) → what e ≡ Exit q at end → AreRecordsOf system (log ++ e ∷ []) (all_after (Exit q at end) recs)
  after_exit q at end is p = by_pid (same_pid p q) refl
    where
      left : record_in (all_after (Exit q at end) recs) p ≡ cond (not (same_pid p q)) (record_in recs p) None
      left = found_passing (λ x. not (same_pid x q)) recs p

      by_pid : (b : Bool) → same_pid p q ≡ b → record_in (all_after (Exit q at end) recs) p ≡ due p
      by_pid true same =
          left ∙ ap (λ b. cond (not b) (record_in recs p) None) same
          ∙ ap (λ o. cond (is_some o) (backup_record system (log ++ e ∷ []) p) None) (sym (after_is (Exit q at end) is p ∙ exit_there now q p at end same))
      by_pid false apart =
          changed (Exit q at end) is (all_after (Exit q at end) recs) p refl (ap is_some (after_is (Exit q at end) is p ∙ exit_elsewhere now q p at end apart))
          (left ∙ ap (λ b. cond (not b) (record_in recs p) None) apart ∙ same_each (record_after (Exit q at end)) (λ r. refl) (record_in recs p))

  after_birth_of : (parent : Pid) (at : ℕ) (child : Pid) (end : ℕ) → what e ≡ Birth parent at child end → AreRecordsOf system (log ++ e ∷ []) (after_birth parent child recs)
  after_birth_of parent at child end is p = by_pid (same_pid child p) refl
    where
      before : IsLegalBy Stands system log
      before = IsLegal-before Stands system log e legal

      stands : Stands system log e
      stands = IsLegal-last Stands system log e legal

      all : Families system log
      all = families Stands itself system log valid before

      born : BornRightly now parent child
      born =
          let kind : BirthHolds system log parent at child end = subst (KindHolds system log e) is stands.kind in
          born_rightly now (e.post).by parent child (subst (λ w. is_by_right now (e.post).by w ≡ true) is stands.by_right) kind.child_is

      apart : same_pid parent child ≡ false
      apart = turned child.0 parent.0 (child_apart system log e parent at child end valid before stands is)

      here : is_some (record_in recs parent) ≡ true
      here = ap is_some (are parent ∙ ap (λ o. cond (is_some o) (backup_record system log parent) None) born.found) ∙ record_there system log parent valid before (ap is_some born.found)

      child_due : record_in (after_birth parent child recs) child ≡ due child
      child_due =
          birth-child parent child recs here apart
          ∙ sym (child_record system log e valid legal parent at child end is)
          ∙ ap (λ o. cond (is_some o) (backup_record system (log ++ e ∷ []) child) None) (sym (found_child system log e stands all parent at child end is born))

      by_pid : (b : Bool) → same_pid child p ≡ b → record_in (after_birth parent child recs) p ≡ due p
      by_pid true same = subst (λ (q : Pid). record_in (after_birth parent child recs) q ≡ due q) (same_pid_of child p (eqb-true child.0 p.0 same)) child_due
      by_pid false other =
          changed (Birth parent at child end) is (after_birth parent child recs) p refl (ap is_some (unended_beside system log e valid legal parent at child end is p other))
          (birth-other parent child recs p other)

  after_sync_of : (q : Pid) (small : SmallState) (read : List ℕ) (took : Option ℕ) → what e ≡ Sync q small read took → AreRecordsOf system (log ++ e ∷ []) (map (cut_of_synced q small read) recs)
  after_sync_of q small read took is p =
      changed (Sync q small read took) is (map (cut_of_synced q small read) recs) p refl (as_many (after_sync q) (sync_keeps q) (Sync q small read took) is refl p)
      (record_mapped (cut_of_synced q small read) (cut_pid q small read) recs p)

  -- ---- new backups

  -- a process whose record the new backup does not cut keeps it
  unrenewed : (to : ClusterNo) (fresh : Bool) (more : List BackRec) → what e ≡ Rebackup to fresh more → (new : List BackRec) (p : Pid) → is_renewed p (Rebackup to fresh more) ≡ false
      → record_in new p ≡ record_in recs p → record_in new p ≡ due p
  unrenewed to fresh more is new p none found =
      changed (Rebackup to fresh more) is new p none (as_many (after_rebackup to fresh more) (backup_keeps to fresh more) (Rebackup to fresh more) is refl p)
      (found ∙ same_each (record_after (Rebackup to fresh more)) (λ r. refl) (record_in recs p))

  after_renewal : (to : ClusterNo) (fresh : Bool) (more : List BackRec) → what e ≡ Rebackup to fresh more → AreRecordsOf system (log ++ e ∷ []) (with_renewed fresh more recs)
  after_renewal to false more is p = unrenewed to false more is recs p refl refl
  after_renewal to true [] is p = unrenewed to true [] is recs p refl refl
  after_renewal to true (r ∷ more) is p = by_pid (same_pid r.pid p) refl
    where
      own : same_pid r.pid r.pid ≡ true
      own = eq-eqb (r.pid).0 (r.pid).0 refl

      there : is_some (unended_at (placement system (log ++ e ∷ [])) r.pid) ≡ true
      there =
          as_many (after_rebackup to true (r ∷ more)) (backup_keeps to true (r ∷ more)) (Rebackup to true (r ∷ more)) is refl r.pid
          ∙ ap is_some (named_in_log system log e to true (r ∷ more) r.pid valid legal is (ap (λ b. b || list_any (λ (s : BackRec). same_pid s.pid r.pid) more) own)).found

      first_due : record_in (with_record r recs) r.pid ≡ due r.pid
      first_due =
          record_put r recs
          ∙ sym (records_are system log e valid legal to true (r ∷ more) is).0
          ∙ ap (λ b. cond b (backup_record system (log ++ e ∷ []) r.pid) None) (sym there)

      by_pid : (b : Bool) → same_pid r.pid p ≡ b → record_in (with_record r recs) p ≡ due p
      by_pid true same = subst (λ (q : Pid). record_in (with_record r recs) q ≡ due q) (same_pid_of r.pid p (eqb-true (r.pid).0 p.0 same)) first_due
      by_pid false apart = unrenewed to true (r ∷ more) is (with_record r recs) p apart (record_put-other r recs p apart)

  -- ---- each kind

  unchanged : (w : What) → what e ≡ w → (p : Pid) → is_renewed p w ≡ false → is_some (unended_at (placed_after now w) p) ≡ is_some (unended_at now p) → ((r : BackRec) → record_after w r ≡ r)
      → record_in recs p ≡ due p
  unchanged w is p none same stays = changed w is recs p none (ap is_some (after_is w is p) ∙ same) (same_each (record_after w) stays (record_in recs p))

  by_kind : (w : What) → what e ≡ w → AreRecordsOf system (log ++ e ∷ []) (all_after w recs)
  by_kind (Mail at letter) is = λ p.
      changed (Mail at letter) is (map (record_after (Mail at letter)) recs) p refl (ap is_some (after_is (Mail at letter) is p))
      (record_mapped (record_after (Mail at letter)) (letter_pid letter) recs p)
  by_kind (Birth parent at child end) is = after_birth_of parent at child end is
  by_kind (Exit q at end) is = after_exit q at end is
  by_kind (Sync q small read took) is = after_sync_of q small read took is
  by_kind (Crash k cause) is = λ p.
      changed (Crash k cause) is recs p refl (as_many (after_loss k) (loss_keeps k) (Crash k cause) is refl p) (same_each (record_after (Crash k cause)) (λ r. refl) (record_in recs p))
  by_kind (Rebackup to fresh more) is = after_renewal to fresh more is
  by_kind w is = λ p. unchanged w is p refl refl (λ r. refl)

-- the records go on with the log
pub entry_taken : (old : List BackRec) (e : Entry) → TakesEntry old (all_after (what e) old) e
entry_taken old e system log valid legal are = by_kind system log e old valid legal are (what e) refl
