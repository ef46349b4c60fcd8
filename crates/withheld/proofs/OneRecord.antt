-- What is to be withheld of a process by its record is what is counted of it.
use Rattle.std.proofs.Common.{◌≡◌, refl, sym, ap, List, true, Option, Some, None, is_some, true≢false}
use Rattle.std.specs.Prelude.{option_map}
use Rattle.std.specs.Option.{option_map_or}
use Rattle.t32_base.specs.declared.process.Pid.{Pid}
use Rattle.sys_text.specs.declared.system.System.{System}
use Rattle.sys_text.specs.Valid.{is_system}
use Rattle.proc_state.specs.State.{ProcState}
use Rattle.bus_msg.specs.declared.entry.Entry.{Entry}
use Rattle.cert_sched.specs.Schedule.{process_after}
use Rattle.cert_sched.specs.Record.{backup_record, record_from, withheld_in}
use Rattle.cert_sched.specs.Legal.{IsLegalBy, Stands}
use Rattle.cert_sched.specs.Simulation.{IsUnended}
use Rattle.cert_sched.proofs.OpenLaws.{unended_open}
use Rattle.cert_sched.proofs.RollLaws.{all_roll}
use Rattle.cert_sched.proofs.ThereLaws.{unended_there}
use Rattle.log_laws.proofs.records.Standing.{itself}
use Rattle.withheld.specs.Counts.{count_since}

-- a process that has not ended has a record, since it started somewhere
pub withheld_of : (system : System) (log : List Entry) (p : Pid) → is_system system ≡ true → IsLegalBy Stands system log → IsUnended system log p → option_map_or withheld_in (backup_record system log p) 0 ≡ count_since log p
unfolding backup_record
withheld_of system log p valid legal unended = by_process (process_after system log p) refl (unended_there Stands itself system log p valid legal unended)
  where
    by_process : (o : Option ProcState) → process_after system log p ≡ o → is_some o ≡ true → option_map_or withheld_in (backup_record system log p) 0 ≡ count_since log p
    by_process None there some = absurd (true≢false (sym some))
    by_process (Some now) there some =
        ap (λ (o : Option ProcState). option_map_or withheld_in (option_map (record_from system log p) o) 0)
        ((all_roll Stands itself system log valid legal).rolls p now there (unended_open Stands itself system log p valid legal unended now there)).started
