-- What new backups and returns do to the births of children that never synchronised.
use Rattle.std.proofs.Common.{◌≡◌, refl, sym, ◌∙◌, ap, List, [], ◌∷◌, ◌++◌, Bool, true, false, cond, not, ◌&&◌, ◌||◌, Option, Some, None}
use Rattle.std.specs.Prelude.{filter, option_map}
use Rattle.t32_base.specs.declared.process.Pid.{Pid}
use Rattle.t32_base.specs.declared.process.ClusterNo.{ClusterNo}
use Rattle.t32_base.specs.declared.letter.BackRec.{BackRec}
use Rattle.t32_base.proofs.Facts.{eqb_turned, or_false, or_true}
use Rattle.sys_text.specs.declared.system.System.{System}
use Rattle.bus_msg.specs.declared.entry.What.TheVariants.{Return, Rebackup}
use Rattle.bus_msg.specs.declared.entry.Entry.{Entry}
use Rattle.bus_msg.specs.declared.placed.Placed.{Placed}
use Rattle.bus_msg.specs.Places.{Places, same_pid, unended_at}
use Rattle.bus_msg.specs.PlacedAfter.{what, placed_after, after_rebackup, is_named}
use Rattle.cert_sched.specs.Schedule.{placement}
use Rattle.cert_sched.specs.Family.{is_unsynced}
use Rattle.cert_sched.proofs.UnendedLaws.{unended_map, unended_pid, backup_keeps}
use Rattle.cert_sched.proofs.FamilyLaws.{Pair}
use Rattle.log_laws.specs.births.Unsynced.{unsynced_births}
use Rattle.log_laws.proofs.births.Filters.{and_true, and_false}
use Rattle.log_laws.proofs.births.OtherEntries.{never_synced, unsynced_after_standing, without_one, births_stay}

same_pid-sym : (p r : Pid) → same_pid p r ≡ same_pid r p
same_pid-sym p r = eqb_turned p.0 r.0

-- a process that has run has synchronised by its new backup
unsynced_after_fresh : (places : Places) (to : ClusterNo) (r : BackRec) (p : Pid) → is_unsynced (placed_after places (Rebackup to true (r ∷ []))) p ≡ (is_unsynced places p && not (same_pid p r.pid))
unsynced_after_fresh places to r p =
    ap never_synced (unended_map (after_rebackup to true (r ∷ [])) (backup_keeps to true (r ∷ [])) places (placed_after places (Rebackup to true (r ∷ []))) refl p)
    ∙ by_found (unended_at places p) refl
  where
    by_name : (q : Placed) (x : Bool) → not (cond x (record q { backup = Some to; synced = q.synced || true }) q).synced ≡ (not q.synced && not x)
    by_name q true = ap not (or_true q.synced) ∙ sym (and_false (not q.synced))
    by_name q false = sym (and_true (not q.synced))

    by_found : (o : Option Placed) → unended_at places p ≡ o → never_synced (option_map (after_rebackup to true (r ∷ [])) o) ≡ (never_synced o && not (same_pid p r.pid))
    by_found None found = refl
    by_found (Some q) found =
        by_name q (is_named (r ∷ []) q)
        ∙ ap (λ x. not q.synced && not x) (or_false (same_pid r.pid q.pid) ∙ same_pid-sym r.pid q.pid ∙ ap (λ s. same_pid s r.pid) (unended_pid places p q found))

pub renewed_goes : (system : System) (log : List Entry) (e : Entry) (to : ClusterNo) (r : BackRec) → what e ≡ Rebackup to true (r ∷ [])
    → unsynced_births system (log ++ e ∷ []) ≡ filter (λ (b : Pair). not (same_pid b.1 r.pid)) (unsynced_births system log)
renewed_goes system log e to r is = without_one system log e (Rebackup to true (r ∷ [])) r.pid is refl (unsynced_after_fresh (placement system log) to r)

pub handed_on_stay : (system : System) (log : List Entry) (e : Entry) (to : ClusterNo) (recs : List BackRec) → what e ≡ Rebackup to false recs
    → unsynced_births system (log ++ e ∷ []) ≡ unsynced_births system log
handed_on_stay system log e to recs is = births_stay system log e (Rebackup to false recs) is refl (unsynced_after_standing (placement system log) to recs)

pub returns_stay : (system : System) (log : List Entry) (e : Entry) (k : ClusterNo) → what e ≡ Return k → unsynced_births system (log ++ e ∷ []) ≡ unsynced_births system log
returns_stay system log e k is = births_stay system log e (Return k) is refl (λ p. refl)
