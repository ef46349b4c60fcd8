-- The records of a cluster at a new backup, of either form: those that it brings, with those that were there, are those of the log with it.
use Rattle.std.proofs.Common.{◌≡◌, refl, sym, ◌∙◌, ap, List, [], ◌∷◌, ◌++◌, Bool, true, false, cond, ◌&&◌, ◌||◌, eqb-true, Option, Some, None, is_some, unwrap_or, true≢false}
use Rattle.std.specs.Prelude.{option_map}
use Rattle.std.specs.List.{list_any}
use Rattle.std.specs.Option.{option_map_or}
use Rattle.t32_base.specs.declared.process.Pid.{Pid}
use Rattle.t32_base.specs.declared.process.ClusterNo.{ClusterNo}
use Rattle.t32_base.specs.declared.letter.BackRec.{BackRec}
use Rattle.t32_base.proofs.Facts.{cond_same, and_false}
use Rattle.sys_text.specs.declared.system.System.{System}
use Rattle.sys_text.specs.Valid.{is_system}
use Rattle.bus_msg.specs.declared.entry.What.TheVariants.{Rebackup}
use Rattle.bus_msg.specs.declared.entry.Entry.{Entry}
use Rattle.bus_msg.specs.declared.placed.Placed.{Placed}
use Rattle.bus_msg.specs.Places.{same_pid, same_cluster, is_cluster, unended_at}
use Rattle.bus_msg.specs.PlacedAfter.{what, placed_after, after_rebackup, is_named}
use Rattle.cert_sched.specs.Schedule.{placement}
use Rattle.cert_sched.specs.Record.{backup_record}
use Rattle.cert_sched.specs.Legal.{IsLegalBy, Stands}
use Rattle.cert_sched.proofs.LogLaws.{placement-snoc}
use Rattle.cert_sched.proofs.UnendedLaws.{unended_map, unended_pid, backup_keeps}
use Rattle.backup_records.specs.Records.{record_in, records_renewed, with_record, with_records}
use Rattle.backup_records.proofs.BirthLaws.{record_put, record_put-other}
use Rattle.log_laws.specs.records.Kept.{KeepsRecords, has_backup_in, is_renewed}
use Rattle.log_laws.proofs.records.Named.{AllAre, named_in_log, records_are, record_stays}

-- ---- what is found

-- of a process of which there is a record among those that come it is that record, and of any other what was there
put_each : (f : Pid → Option BackRec) (more recs : List BackRec) (p : Pid) → AllAre f more
    → record_in (with_records more recs) p ≡ cond (list_any (λ (r : BackRec). same_pid r.pid p) more) (f p) (record_in recs p)
put_each f [] recs p all = refl
put_each f (r ∷ rs) recs p all = put_each f rs (with_record r recs) p all.1 ∙ by_pid (same_pid r.pid p) refl
  where
    later : Bool
    later = list_any (λ (s : BackRec). same_pid s.pid p) rs

    by_pid : (b : Bool) → same_pid r.pid p ≡ b → cond later (f p) (record_in (with_record r recs) p) ≡ cond (b || later) (f p) (record_in recs p)
    by_pid true same =
        let pids : r.pid ≡ p = λ i. record { 0 = eqb-true (r.pid).0 p.0 same i } in
        ap (λ o. cond later (f p) o) (ap (record_in (with_record r recs)) (sym pids) ∙ record_put r recs ∙ sym all.0 ∙ ap f pids) ∙ cond_same later (f p)
    by_pid false apart = ap (λ o. cond later (f p) o) (record_put-other r recs p apart)

-- ---- who is cut

-- one that is not named is not cut
unnamed_unrenewed : (to : ClusterNo) (fresh : Bool) (more : List BackRec) (p : Pid) → list_any (λ (r : BackRec). same_pid r.pid p) more ≡ false → is_renewed p (Rebackup to fresh more) ≡ false
unnamed_unrenewed to fresh [] p none = and_false fresh
unnamed_unrenewed to fresh (r ∷ rs) p none = ap (λ b. fresh && b) (by_first (same_pid r.pid p) none) ∙ and_false fresh
  where
    by_first : (b : Bool) → (b || list_any (λ (s : BackRec). same_pid s.pid p) rs) ≡ false → b ≡ false
    by_first true h = h
    by_first false h = refl

-- ---- the records

module _ (system : System) (log : List Entry) (e : Entry) (k to : ClusterNo) (fresh : Bool) (more recs : List BackRec) (valid : is_system system ≡ true)
    (legal : IsLegalBy Stands system (log ++ e ∷ [])) (is : what e ≡ Rebackup to fresh more) (keeps : KeepsRecords system log k recs) where
  abbrev now : Pid → Option BackRec
  now p = backup_record system (log ++ e ∷ []) p

  abbrev named : Pid → Bool
  named p = list_any (λ (r : BackRec). same_pid r.pid p) more

  abbrev backed : Option Placed → Bool
  backed o = option_map_or (λ (q : Placed). is_cluster q.backup k) o false

  after_is : (p : Pid) → unended_at (placement system (log ++ e ∷ [])) p ≡ option_map (after_rebackup to fresh more) (unended_at (placement system log) p)
  after_is p =
      ap (λ places. unended_at places p) (placement-snoc system log e ∙ ap (placed_after (placement system log)) is)
      ∙ unended_map (after_rebackup to fresh more) (backup_keeps to fresh more) (placement system log) (placed_after (placement system log) (Rebackup to fresh more)) refl p

  found : (p : Pid) → record_in (records_renewed to k more recs) p ≡ cond (same_cluster to k && named p) (now p) (record_in recs p)
  found p = by_here (same_cluster to k)
    where
      by_here : (b : Bool) → record_in (cond b (with_records more recs) recs) p ≡ cond (b && named p) (now p) (record_in recs p)
      by_here true = put_each (backup_record system (log ++ e ∷ [])) more recs p (records_are system log e valid legal to fresh more is)
      by_here false = refl

  -- where the process is not named, what was there is found
  unnamed_found : (p : Pid) → named p ≡ false → record_in (records_renewed to k more recs) p ≡ record_in recs p
  unnamed_found p none = found p ∙ ap (λ b. cond (same_cluster to k && b) (now p) (record_in recs p)) none ∙ ap (λ b. cond b (now p) (record_in recs p)) (and_false (same_cluster to k))

  by_named : (p : Pid) (q : Placed) → unended_at (placement system log) p ≡ Some q → (b : Bool) → named p ≡ b
      → record_in (records_renewed to k more recs) p ≡ cond (has_backup_in system (log ++ e ∷ []) k p) (now p) None
  by_named p q there true is_named_so =
      let u = named_in_log system log e to fresh more p valid legal is is_named_so in
      let same : u.at ≡ q = ap (λ (o : Option Placed). unwrap_or o q) (sym u.found ∙ there) in
      let none : q.backup ≡ None = ap (λ (x : Placed). x.backup) (sym same) ∙ u.none in
      let was : record_in recs p ≡ None = keeps p ∙ ap (λ o. cond (backed o) (backup_record system log p) None) there ∙ ap (λ o. cond (is_cluster o k) (backup_record system log p) None) none in
      let name : is_named more q ≡ true = ap (λ x. list_any (λ (r : BackRec). same_pid r.pid x) more) (unended_pid (placement system log) p q there) ∙ is_named_so in
      let has : has_backup_in system (log ++ e ∷ []) k p ≡ same_cluster to k =
      ap backed (after_is p ∙ ap (option_map (after_rebackup to fresh more)) there) ∙ ap (λ b. is_cluster (cond b (record q { backup = Some to; synced = q.synced || fresh }) q).backup k) name in
      found p ∙ (λ i. cond (same_cluster to k && is_named_so i) (now p) (was i)) ∙ ap (λ b. cond b (now p) None) (and_all (same_cluster to k) ∙ sym has)
    where
      and_all : (b : Bool) → (b && true) ≡ b
      and_all true = refl
      and_all false = refl
  by_named p q there false unnamed =
      let name : is_named more q ≡ false = ap (λ x. list_any (λ (r : BackRec). same_pid r.pid x) more) (unended_pid (placement system log) p q there) ∙ unnamed in
      let has : has_backup_in system (log ++ e ∷ []) k p ≡ is_cluster q.backup k =
      ap backed (after_is p ∙ ap (option_map (after_rebackup to fresh more)) there) ∙ ap (λ b. is_cluster (cond b (record q { backup = Some to; synced = q.synced || fresh }) q).backup k) name in
      let same : now p ≡ backup_record system log p = record_stays system log e valid legal to fresh more p is (unnamed_unrenewed to fresh more p unnamed) (ap is_some there) in
      unnamed_found p unnamed ∙ keeps p ∙ ap (λ o. cond (backed o) (backup_record system log p) None) there ∙ (λ i. cond (sym has i) (sym same i) None)

  by_placed : (p : Pid) (o : Option Placed) → unended_at (placement system log) p ≡ o → record_in (records_renewed to k more recs) p ≡ cond (has_backup_in system (log ++ e ∷ []) k p) (now p) None
  by_placed p (Some q) there = by_named p q there (named p) refl
  by_placed p None there =
      unnamed_found p (not_named (named p) refl) ∙ keeps p ∙ ap (λ o. cond (backed o) (backup_record system log p) None) there
      ∙ ap (λ o. cond (backed o) (now p) None) (sym (after_is p ∙ ap (option_map (after_rebackup to fresh more)) there))
    where
      not_named : (b : Bool) → named p ≡ b → b ≡ false
      not_named true h = absurd (true≢false (sym (ap is_some (sym there ∙ (named_in_log system log e to fresh more p valid legal is h).found))))
      not_named false h = refl

-- where the records of a cluster are those of the log, those that a new backup leaves and brings are those of the log with it
pub renewed_kept : (system : System) (log : List Entry) (e : Entry) (k to : ClusterNo) (fresh : Bool) (more recs : List BackRec) → is_system system ≡ true → IsLegalBy Stands system (log ++ e ∷ [])
    → what e ≡ Rebackup to fresh more → KeepsRecords system log k recs
    → KeepsRecords system (log ++ e ∷ []) k (records_renewed to k more recs)
renewed_kept system log e k to fresh more recs valid legal is keeps p = by_placed system log e k to fresh more recs valid legal is keeps p (unended_at (placement system log) p) refl
