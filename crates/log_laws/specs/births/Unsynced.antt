-- The births of a log whose children never synchronised.
use Rattle.std.specs.Prelude.{Bool, true, false, List, filter}
use Rattle.t32_base.specs.declared.process.Pid.{Pid}
use Rattle.sys_text.specs.declared.system.System.{System}
use Rattle.bus_msg.specs.declared.entry.What.{What}
use Rattle.bus_msg.specs.declared.entry.What.TheVariants.{Birth, Exit, Rebackup, Sync}
use Rattle.bus_msg.specs.declared.entry.Entry.{Entry}
use Rattle.cert_sched.specs.Schedule.{placement}
use Rattle.cert_sched.specs.Family.{is_unsynced, births_of}

-- the births of the log, as parent and child, whose child has not ended and never synchronised, in their order
abbrev pub unsynced_births : System → List Entry → List (Pid × Pid)
unsynced_births system log = filter (λ (b : Pid × Pid). is_unsynced (placement system log) b.1) (births_of log)

-- the entries that change them: births, exits, synchronisations, and new backups of processes that have run
abbrev pub changes_unsynced : What → Bool
changes_unsynced (Birth parent at child end) = true
changes_unsynced (Exit pid at end) = true
changes_unsynced (Sync pid small read took) = true
changes_unsynced (Rebackup to fresh recs) = fresh
changes_unsynced _ = false
