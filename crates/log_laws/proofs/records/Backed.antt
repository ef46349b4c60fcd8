-- A process that has its backup in a cluster has not ended, and then it has a record.
use Rattle.std.proofs.Common.{◌≡◌, sym, ap, refl, List, true, false, Option, Some, None, is_some, true≢false}
use Rattle.std.specs.Prelude.{option_map}
use Rattle.std.specs.Option.{option_map_or}
use Rattle.t32_base.specs.declared.process.Pid.{Pid}
use Rattle.t32_base.specs.declared.process.ClusterNo.{ClusterNo}
use Rattle.sys_text.specs.declared.system.System.{System}
use Rattle.sys_text.specs.Valid.{is_system}
use Rattle.proc_state.specs.State.{ProcState}
use Rattle.bus_msg.specs.declared.entry.Entry.{Entry}
use Rattle.bus_msg.specs.declared.placed.Placed.{Placed}
use Rattle.bus_msg.specs.Places.{is_cluster, unended_at}
use Rattle.cert_sched.specs.Schedule.{placement, process_after}
use Rattle.cert_sched.specs.Record.{backup_record, record_from}
use Rattle.cert_sched.specs.Legal.{IsLegalBy, Stands}
use Rattle.cert_sched.specs.Simulation.{IsUnended}
use Rattle.cert_sched.proofs.OpenLaws.{unended_open}
use Rattle.cert_sched.proofs.RollLaws.{all_roll}
use Rattle.cert_sched.proofs.ThereLaws.{unended_there}
use Rattle.log_laws.specs.records.Kept.{has_backup_in}
use Rattle.log_laws.proofs.records.Standing.{itself}

-- a process that has a backup there has not ended
pub with_backup_unended : (system : System) (log : List Entry) (k : ClusterNo) (p : Pid) → has_backup_in system log k p ≡ true → IsUnended system log p
with_backup_unended system log k p has = by_placed (unended_at (placement system log) p) has
  where
    by_placed : (o : Option Placed) → option_map_or (λ (q : Placed). is_cluster q.backup k) o false ≡ true → is_some o ≡ true
    by_placed None h = absurd (true≢false (sym h))
    by_placed (Some q) h = refl

-- a process that has not ended has a record
pub record_there : (system : System) (log : List Entry) (p : Pid) → is_system system ≡ true → IsLegalBy Stands system log → IsUnended system log p → is_some (backup_record system log p) ≡ true
unfolding backup_record
record_there system log p valid legal unended = by_process (process_after system log p) refl (unended_there Stands itself system log p valid legal unended)
  where
    by_process : (o : Option ProcState) → process_after system log p ≡ o → is_some o ≡ true → is_some (backup_record system log p) ≡ true
    by_process None there some = absurd (true≢false (sym some))
    by_process (Some now) there some =
        let rolls = (all_roll Stands itself system log valid legal).rolls p now there (unended_open Stands itself system log p valid legal unended now there) in
        ap (λ (o : Option ProcState). is_some (option_map (record_from system log p) o)) rolls.started
