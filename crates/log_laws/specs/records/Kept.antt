-- The records of a cluster beside a log.
use Rattle.std.specs.Prelude.{◌≡◌, Bool, true, false, if◌then◌else◌, List, [], map, filter, Some, None}
use Rattle.std.specs.Option.{option_map_or}
use Rattle.t32_base.specs.declared.process.Pid.{Pid}
use Rattle.t32_base.specs.declared.process.ClusterNo.{ClusterNo}
use Rattle.t32_base.specs.declared.letter.BackRec.{BackRec}
use Rattle.sys_text.specs.declared.system.System.{System}
use Rattle.write_count.specs.Counting.{no_counts}
use Rattle.proc_state.specs.State.{ProcState}
use Rattle.plain_kernel.specs.Kernel.{boot}
use Rattle.bus_msg.specs.declared.entry.What.{What}
use Rattle.bus_msg.specs.declared.entry.What.TheVariants.{Crash, Rebackup}
use Rattle.bus_msg.specs.declared.entry.Entry.{Entry}
use Rattle.bus_msg.specs.declared.placed.Placed.{Placed}
use Rattle.bus_msg.specs.Places.{Places, is_cluster, unended_at}
use Rattle.cert_sched.specs.Deeds.{is_cut}
use Rattle.cert_sched.specs.Schedule.{placement}
use Rattle.cert_sched.specs.Record.{backup_record}
use Rattle.backup_records.specs.Records.{record_in}

-- the process has not ended, and its backup is in the cluster
abbrev pub has_backup_in : System → List Entry → ClusterNo → Pid → Bool
has_backup_in system log k p = option_map_or (λ (q : Placed). is_cluster q.backup k) (unended_at (placement system log) p) false

-- the records of a cluster are those of the log for each such process, and there is no other
abbrev pub KeepsRecords : System → List Entry → ClusterNo → List BackRec → Type 0
KeepsRecords system log k recs = (p : Pid) → record_in recs p ≡ (if has_backup_in system log k p then backup_record system log p else None)

-- the record of a process at boot: its state there; it was sent nothing, and has done nothing
abbrev pub record_at_boot : Pid × ProcState → BackRec
record_at_boot e = record { pid = e.0; state = Some (e.1).small; saved = []; next = 0; counts = no_counts; births = [] }

-- those of these processes whose backup is in the cluster
abbrev pub boot_records_of : System → ClusterNo → List (Pid × ProcState) → List BackRec
boot_records_of system k processes = map record_at_boot (filter (λ (e : Pid × ProcState). has_backup_in system [] k e.0) processes)

-- the records of a cluster at boot, by rising pid
abbrev pub records_at_boot : System → ClusterNo → List BackRec
records_at_boot system k = boot_records_of system k (boot system).processes

-- the kinds whose change of the record of a process that goes on is what `record_after` makes of it: all but new backups
abbrev pub is_noted : What → Bool
is_noted (Rebackup to fresh recs) = false
is_noted w = true

-- the kinds at which no record leaves a cluster but that of a process that ended: all but losses
abbrev pub changes_in_place : What → Bool
changes_in_place (Crash k cause) = false
changes_in_place w = true

-- a new backup for the process, after it has run
abbrev pub is_renewed : Pid → What → Bool
is_renewed p (Rebackup to fresh recs) = is_cut p (Rebackup to fresh recs)
is_renewed p w = false

-- the process has not ended, and has no backup
pub record Unbacked (places : Places) (p : Pid) : Type 0 where
  pub at : Placed
  pub found : unended_at places p ≡ Some at
  pub none : at.backup ≡ None
