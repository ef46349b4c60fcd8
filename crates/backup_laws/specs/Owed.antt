-- How many new backups clusters may still give after a log, while no cluster is lost.
use Rattle.std.specs.Prelude.{ℕ, ◌+◌, ◌-◌, Bool, not, ◌&&◌, List, count_by, length, is_none}
use Rattle.sys_text.specs.declared.system.System.{System}
use Rattle.bus_msg.specs.declared.entry.Entry.{Entry}
use Rattle.bus_msg.specs.declared.placed.Placed.{Placed}
use Rattle.cert_sched.specs.Schedule.{placement}
use Rattle.cert_sched.specs.Family.{births_of}

-- it has not ended, and has no backup
abbrev pub is_unbacked : Placed → Bool
is_unbacked q = not q.ended && is_none q.backup

-- at most one for each process without a backup, and for each child that may still be born, as there are 32 processes at most
abbrev pub left_of_backups : System → List Entry → ℕ
left_of_backups system log = count_by is_unbacked (placement system log).placed + (32 - length (births_of log))
