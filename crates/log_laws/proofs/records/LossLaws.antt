-- The records of a cluster at the loss of another.
use Rattle.std.proofs.Common.{◌≡◌, ℕ, refl, sym, ◌∙◌, ap, arith, List, [], ◌∷◌, ◌++◌, Bool, true, false, cond, not, ◌&&◌, eqb, eqb-true, Option, Some, None, true≢false}
use Rattle.std.specs.Prelude.{filter, option_map}
use Rattle.std.proofs.lemmas.Bool.Decides.{nat_tests}
use Rattle.std.specs.Option.{option_map_or}
use Rattle.t32_base.specs.declared.process.Pid.{Pid}
use Rattle.t32_base.specs.declared.process.ClusterNo.{ClusterNo}
use Rattle.t32_base.specs.declared.letter.BackRec.{BackRec}
use Rattle.sys_text.specs.declared.system.System.{System}
use Rattle.sys_text.specs.Valid.{is_system}
use Rattle.bus_msg.specs.declared.entry.Cause.{Cause}
use Rattle.bus_msg.specs.declared.entry.What.TheVariants.{Crash}
use Rattle.bus_msg.specs.declared.entry.Entry.{Entry}
use Rattle.bus_msg.specs.declared.placed.Placed.{Placed}
use Rattle.bus_msg.specs.Places.{same_pid, same_cluster, is_cluster, placed_at, unended_at}
use Rattle.bus_msg.specs.PlacedAfter.{what, placed_after, after_loss, moved_to}
use Rattle.cert_sched.specs.Schedule.{placement}
use Rattle.cert_sched.specs.Record.{backup_record}
use Rattle.cert_sched.specs.Legal.{IsLegalBy, Stands}
use Rattle.cert_sched.proofs.LogLaws.{placement-snoc, IsLegal-before}
use Rattle.cert_sched.proofs.UnendedLaws.{loss_keeps, unended_map, unended_open_at}
use Rattle.cert_sched.proofs.FreshLaws.{only_one}
use Rattle.cert_sched.proofs.RollLaws.{all_roll, two_apart}
use Rattle.crash_notice.specs.Splitting.{is_moved_here, stays}
use Rattle.backup_records.specs.Records.{record_in, record_after}
use Rattle.log_laws.specs.records.Kept.{KeepsRecords, has_backup_in, is_renewed}
use Rattle.log_laws.proofs.records.Backed.{with_backup_unended}
use Rattle.log_laws.proofs.records.OneRecord.{record_follows}
use Rattle.log_laws.proofs.records.Standing.{itself}

-- ---- what is found of those that stay

-- a test of the pid lets the record of a process stay or not
stays_by_pid : (t : Pid → Bool) (recs : List BackRec) (p : Pid) → record_in (filter (λ (r : BackRec). not (t r.pid)) recs) p ≡ cond (t p) None (record_in recs p)
stays_by_pid t [] p = by_test (t p)
  where
    by_test : (b : Bool) → record_in [] p ≡ cond b None (record_in [] p)
    by_test true = refl
    by_test false = refl
stays_by_pid t (r ∷ rest) p = by_pid (same_pid r.pid p) refl (stays_by_pid t rest p)
  where
    left : List BackRec
    left = filter (λ (r : BackRec). not (t r.pid)) rest

    here : (b : Bool) → t r.pid ≡ b → same_pid r.pid p ≡ true → t p ≡ b → record_in left p ≡ cond (t p) None (record_in rest p) → record_in (cond (not b) (r ∷ left) left) p ≡ cond b None (Some r)
    here true is same moves more = more ∙ ap (λ b. cond b None (record_in rest p)) moves
    here false is same moves more = ap (λ b. cond b (Some r) (record_in left p)) same

    elsewhere : (b : Bool) → same_pid r.pid p ≡ false → record_in left p ≡ cond (t p) None (record_in rest p) → record_in (cond (not b) (r ∷ left) left) p ≡ cond (t p) None (record_in rest p)
    elsewhere true apart more = more
    elsewhere false apart more = ap (λ b. cond b (Some r) (record_in left p)) apart ∙ more

    by_pid : (b : Bool) → same_pid r.pid p ≡ b → record_in left p ≡ cond (t p) None (record_in rest p) → record_in (cond (not (t r.pid)) (r ∷ left) left) p ≡ cond (t p) None (cond (same_pid r.pid p) (Some r) (record_in rest p))
    by_pid true same more =
        let pids : r.pid ≡ p = λ i. record { 0 = eqb-true (r.pid).0 p.0 same i } in
        here (t r.pid) refl same (sym (ap t pids)) more
        ∙ ap (λ q. cond (t q) None (Some r)) pids
        ∙ ap (λ b. cond (t p) None (cond b (Some r) (record_in rest p))) (sym same)
    by_pid false apart more = elsewhere (t r.pid) apart more ∙ ap (λ b. cond (t p) None (cond b (Some r) (record_in rest p))) (sym apart)

-- ---- the backup after the loss

-- a backup here is not in the lost cluster
not_lost : (o : Option ClusterNo) (lost here : ClusterNo) → same_cluster lost here ≡ false → is_cluster o here ≡ true → is_cluster o lost ≡ false
not_lost None lost here apart is = absurd (true≢false (sym is))
not_lost (Some b) lost here apart is = ap (λ n. eqb n lost.0) (eqb-true b.0 here.0 is) ∙ turned here.0 lost.0 apart
  where
    turned : (m n : ℕ) → eqb n m ≡ false → eqb m n ≡ false
    turned m n h = grind (arith, nat_tests)

lost_backup : (lost : ClusterNo) (q : Placed) → q.ended ≡ false → (after_loss lost q).backup ≡ cond (same_cluster q.home lost) (moved_to q lost q.backup).backup (cond (is_cluster q.backup lost) None q.backup)
lost_backup lost q open_still =
    ap (λ e. (cond e q (cond (same_cluster q.home lost) (moved_to q lost q.backup) (cond (is_cluster q.backup lost) (record q { backup = None; lost = Some lost }) q))).backup) open_still
    ∙ by_tests (same_cluster q.home lost) (is_cluster q.backup lost)
  where
    by_tests : (h b : Bool) → (cond h (moved_to q lost q.backup) (cond b (record q { backup = None; lost = Some lost }) q)).backup ≡ cond h (moved_to q lost q.backup).backup (cond b None q.backup)
    by_tests true b = refl
    by_tests false true = refl
    by_tests false false = refl

moved_without : (q : Placed) (lost : ClusterNo) (o : Option ClusterNo) → o ≡ q.backup → (moved_to q lost o).backup ≡ None
moved_without q lost None is = sym is
moved_without q lost (Some b) is = refl

-- ---- the loss

-- where the records are those of the log, those that stay at a loss are those of the log with it
pub loss_kept : (system : System) (log : List Entry) (e : Entry) (lost here : ClusterNo) (cause : Cause) (recs : List BackRec) → is_system system ≡ true → IsLegalBy Stands system (log ++ e ∷ []) → what e ≡ Crash lost cause → same_cluster lost here ≡ false
    → KeepsRecords system log here recs → KeepsRecords system (log ++ e ∷ []) here (filter (stays (placement system log) lost here) recs)
loss_kept system log e lost here cause recs valid legal is apart keeps p = by_placed (unended_at (placement system log) p) refl
  where
    moves : Pid → Bool
    moves p = option_map_or (is_moved_here lost here) (placed_at (placement system log) p) false

    after_is : unended_at (placement system (log ++ e ∷ [])) p ≡ option_map (after_loss lost) (unended_at (placement system log) p)
    after_is =
        ap (λ places. unended_at places p) (placement-snoc system log e ∙ ap (placed_after (placement system log)) is)
        ∙ unended_map (after_loss lost) (loss_keeps lost) (placement system log) (placed_after (placement system log) (Crash lost cause)) refl p

    backed : Option Placed → Bool
    backed o = option_map_or (λ (q : Placed). is_cluster q.backup here) o false

    to : (o : Option Placed) → unended_at (placement system log) p ≡ o → has_backup_in system (log ++ e ∷ []) here p ≡ backed (option_map (after_loss lost) o)
    to o there = ap backed (after_is ∙ ap (option_map (after_loss lost)) there)

    none_either : (b : Bool) (o : Option BackRec) → cond b o o ≡ o
    none_either true o = refl
    none_either false o = refl

    same_record : (o : Option BackRec) → o ≡ option_map (record_after (Crash lost cause)) o
    same_record None = refl
    same_record (Some r) = refl

    lost_or_not : (q : Placed) (c : Bool) → is_cluster q.backup here ≡ false → is_cluster (cond c None q.backup) here ≡ false
    lost_or_not q true not_here = refl
    lost_or_not q false not_here = not_here

    by_case : (q : Placed) (h b : Bool) → unended_at (placement system log) p ≡ Some q → is_cluster q.backup here ≡ b
        → cond (h && true && b) None (cond b (backup_record system log p) None)
        ≡ cond (is_cluster (cond h (moved_to q lost q.backup).backup (cond (is_cluster q.backup lost) None q.backup)) here) (backup_record system (log ++ e ∷ []) p) None
    by_case q true true there backup = ap (λ o. cond (is_cluster o here) (backup_record system (log ++ e ∷ []) p) None) (sym (moved_without q lost q.backup refl))
    by_case q true false there backup = ap (λ o. cond (is_cluster o here) (backup_record system (log ++ e ∷ []) p) None) (sym (moved_without q lost q.backup refl))
    by_case q false true there backup =
        let has : has_backup_in system log here p ≡ true = ap backed there ∙ backup in
        same_record (backup_record system log p)
        ∙ ap (λ w. option_map (record_after w) (backup_record system log p)) (sym is)
        ∙ sym (record_follows Stands itself system log e p valid legal (ap (is_renewed p) is) (with_backup_unended system log here p has))
        ∙ ap (λ b. cond b (backup_record system (log ++ e ∷ []) p) None) (sym (ap (λ c. is_cluster (cond c None q.backup) here) (not_lost q.backup lost here apart backup) ∙ backup))
    by_case q false false there backup = ap (λ b. cond b (backup_record system (log ++ e ∷ []) p) None) (sym (lost_or_not q (is_cluster q.backup lost) backup))

    by_tests : (q : Placed) (h b : Bool) → unended_at (placement system log) p ≡ Some q → same_cluster q.home lost ≡ h → is_cluster q.backup here ≡ b
        → record_in (filter (stays (placement system log) lost here) recs) p ≡ cond (has_backup_in system (log ++ e ∷ []) here p) (backup_record system (log ++ e ∷ []) p) None
    by_tests q h b there home backup =
        let open_still : q.ended ≡ false = unended_open_at (placement system log) p q there in
        let placed : placed_at (placement system log) p ≡ Some q = only_one p (placement system log).placed q (two_apart system log (all_roll Stands itself system log valid (IsLegal-before Stands system log e legal))) there in
        let moves_is : moves p ≡ (h && true && b) =
        ap (λ o. option_map_or (is_moved_here lost here) o false) placed ∙ (λ i. home i && not (open_still i) && backup i) in
        let was : record_in recs p ≡ cond b (backup_record system log p) None = keeps p ∙ ap (λ o. cond (backed o) (backup_record system log p) None) there ∙ ap (λ b. cond b (backup_record system log p) None) backup in
        let then : has_backup_in system (log ++ e ∷ []) here p ≡ is_cluster (cond h (moved_to q lost q.backup).backup (cond (is_cluster q.backup lost) None q.backup)) here =
        to (Some q) there ∙ ap (λ o. is_cluster o here) (lost_backup lost q open_still ∙ ap (λ h. cond h (moved_to q lost q.backup).backup (cond (is_cluster q.backup lost) None q.backup)) home) in
        stays_by_pid moves recs p ∙ (λ i. cond (moves_is i) None (was i)) ∙ by_case q h b there backup ∙ ap (λ b. cond b (backup_record system (log ++ e ∷ []) p) None) (sym then)

    by_placed : (o : Option Placed) → unended_at (placement system log) p ≡ o
        → record_in (filter (stays (placement system log) lost here) recs) p ≡ cond (has_backup_in system (log ++ e ∷ []) here p) (backup_record system (log ++ e ∷ []) p) None
    by_placed None there =
        stays_by_pid moves recs p
        ∙ ap (cond (moves p) None) (keeps p ∙ ap (λ o. cond (backed o) (backup_record system log p) None) there)
        ∙ none_either (moves p) None
        ∙ ap (λ b. cond b (backup_record system (log ++ e ∷ []) p) None) (sym (to None there))
    by_placed (Some q) there = by_tests q (same_cluster q.home lost) (is_cluster q.backup here) there refl refl
