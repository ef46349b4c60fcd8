-- The backup records of all processes of a log, and what an entry makes of them.
use Rattle.std.specs.Prelude.{ℕ, ◌≡◌, Bool, true, false, if◌then◌else◌, List, [], ◌∷◌, ◌++◌, Option, Some, None, is_some, option_map}
use Rattle.std.specs.List.{list_any}
use Rattle.std.specs.Map.{lookup}
use Rattle.t32_base.specs.declared.process.Pid.{Pid}
use Rattle.t32_base.specs.declared.letter.BackRec.{BackRec}
use Rattle.sys_text.specs.declared.system.System.{System}
use Rattle.sys_text.specs.Valid.{is_system}
use Rattle.proc_state.specs.Mail.{RiseTo}
use Rattle.proc_state.specs.State.{ProcState}
use Rattle.plain_kernel.specs.Maps.{at_key}
use Rattle.bus_msg.specs.declared.entry.What.{What}
use Rattle.bus_msg.specs.declared.entry.What.TheVariants.{Rebackup}
use Rattle.bus_msg.specs.declared.entry.Entry.{Entry}
use Rattle.bus_msg.specs.declared.placed.Placed.{Placed}
use Rattle.bus_msg.specs.Places.{cluster_no, same_pid, unended_at}
use Rattle.backup_records.specs.Records.{CanNote, record_in, records_after, with_record}
use Rattle.cert_sched.specs.Legal.{IsLegalBy, Stands}
use Rattle.cert_sched.specs.Record.{backup_record}
use Rattle.cert_sched.specs.Schedule.{placement}
use Rattle.log_laws.specs.records.Kept.{record_at_boot}

-- ---- which records they are

-- the records are those of a log of each process that has not ended, and there is no other
abbrev pub AreRecordsOf : System → List Entry → List BackRec → Type 0
AreRecordsOf system log recs =
    (p : Pid) → record_in recs p ≡ (if is_some (unended_at (placement system log) p) then backup_record system log p else None)

-- where they were those of a log, they are those of the log with an entry that stands next in it
abbrev pub TakesEntry : List BackRec → List BackRec → Entry → Type 0
TakesEntry old new e = (system : System) (log : List Entry) → is_system system ≡ true → IsLegalBy Stands system (log ++ e ∷ []) →
    AreRecordsOf system log old → AreRecordsOf system (log ++ e ∷ []) new

-- ---- at boot

-- the record of a process at its start, where it is there
abbrev pub start_record : Pid → Option ProcState → Option BackRec
start_record p start = option_map (λ (s : ProcState). record_at_boot (p, s)) start

-- one record more: that one, where it is there
abbrev pub with_first : Pid → Option ProcState → List BackRec → List BackRec
with_first p None recs = recs
with_first p (Some s) recs = with_record (record_at_boot (p, s)) recs

-- they are the records of those of these processes that are placed, each as it starts
abbrev pub AreFirstOf : List Placed → List (ℕ × ProcState) → List BackRec → Type 0
AreFirstOf placed starts recs =
    (p : Pid) → record_in recs p
    ≡ (if list_any (λ (q : Placed). same_pid q.pid p) placed then start_record p (lookup (at_key p.0) starts) else None)

-- ---- an entry

-- A process that has run has the first record that its new backup brings. Those of processes that wait are brought as they are.
abbrev pub with_renewed : Bool → List BackRec → List BackRec → List BackRec
with_renewed true [] recs = recs
with_renewed true (r ∷ more) recs = with_record r recs
with_renewed false more recs = recs

-- the letters of the record that comes are numbered in order
abbrev pub CanRenew : Bool → List BackRec → Type 0
CanRenew true [] = Unit {0}
CanRenew true (r ∷ more) = RiseTo 0 r.saved r.next
CanRenew false more = Unit {0}

-- what an entry makes of the records: a new backup renews one, and any other entry makes of them what it makes of those of a cluster
abbrev pub all_after : What → List BackRec → List BackRec
all_after (Rebackup to fresh more) recs = with_renewed fresh more recs
all_after w recs = records_after (cluster_no 0) w recs

-- of a new backup the record may come, and any other entry may be noted as by a cluster
abbrev pub CanTake : What → List BackRec → Type 0
CanTake (Rebackup to fresh more) recs = CanRenew fresh more
CanTake w recs = CanNote w recs
