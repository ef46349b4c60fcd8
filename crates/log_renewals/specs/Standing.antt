-- Which lines of new backups of processes that wait, each with its family, may stand next.
use Rattle.std.specs.Prelude.{ℕ, ◌≡◌, ◌==◌, ◌^◌, nat_lt, ◌&&◌, Bool, true, false, if◌then◌else◌, List, ◌∷◌, map, Option, Some, None, is_none, is_some}
use Rattle.std.specs.List.{list_any}
use Rattle.std.specs.Option.{option_map_or}
use Rattle.t32_base.specs.declared.process.Pid.{Pid}
use Rattle.t32_base.specs.declared.process.ClusterNo.{ClusterNo}
use Rattle.t32_base.specs.declared.letter.BackRec.{BackRec}
use Rattle.sys_text.specs.declared.system.System.{System}
use Rattle.bus_msg.specs.declared.entry.By.TheVariants.{Cluster}
use Rattle.bus_msg.specs.declared.entry.What.TheVariants.{Rebackup}
use Rattle.bus_msg.specs.declared.entry.Entry.{Entry}
use Rattle.bus_msg.specs.declared.placed.Placed.{Placed}
use Rattle.bus_msg.specs.Places.{Places, unended_at}
use Rattle.bus_msg.specs.NewBackup.{next_backup_at}
use Rattle.birth_notice.specs.Joined.{others_of}
use Rattle.backup_records.specs.Records.{record_in}
use Rattle.cert_sched.specs.Legal.{MayStand}
use Rattle.cert_sched.specs.Rules.{is_full}
use Rattle.cert_sched.specs.Steps.{first_record}
use Rattle.entry_lines.specs.declared.told.ToldWhat.TheVariants.{Standing as ToldStanding}
use Rattle.line_laws.specs.Meant.{pid_no}
use Rattle.log_audit.specs.Decides.{Decides}
use Rattle.log_audit.specs.Fetches.{home_told}
use Rattle.log_audit.specs.Front.{FrontState, IsFrontOf, entry_at, is_next}
use Rattle.log_laws.specs.births.Unsynced.{unsynced_births}
use Rattle.log_records.specs.Records.{AreRecordsOf}
use Rattle.log_renewals.specs.declared.standing.StandingHead.{StandingHead}
use Rattle.log_renewals.specs.Moved.{moved_only}
use Rattle.log_renewals.specs.Numbers.{are_same_numbers}

-- ---- what is kept

-- These are what a log says: the front, whether the process has only been moved, the children that never synchronised, and the records.
pub record KeepsStanding (front : FrontState) (p : Pid) (moved : Bool) (births : List (Pid × Pid)) (recs : List BackRec)
    (system : System) (log : List Entry) : Type 0 where
  pub before : IsFrontOf system log front
  pub moved_is : moved ≡ moved_only system log p
  pub family : births ≡ unsynced_births system log
  pub records : AreRecordsOf system log recs

-- ---- what may stand next

-- the home of the process, where an entry with this place may stand next and the line says that this cluster sent it
abbrev pub home_next : FrontState → StandingHead → Option ClusterNo
home_next front head = if is_next front head.place then home_told front.places head.by head.pid else None

-- a fullback that has only been moved
abbrev pub may_wait : Places → Pid → Bool → Bool
may_wait places p moved = moved && option_map_or (λ (q : Placed). is_full q.mode) (unended_at places p) false

-- a cluster, where it is the one that a line names
abbrev pub named_cluster : ℕ → Option ClusterNo → Option ClusterNo
named_cluster n None = None
named_cluster n (Some k) = if k.0 == n then Some k else None

-- the cluster that the process gets as its backup now, where the line names it
abbrev pub backup_told : Places → Pid → ℕ → Option ClusterNo
backup_told places p to = named_cluster to (next_backup_at places p)

-- these are the others of the family of a process, in any order
abbrev pub is_family : List (Pid × Pid) → Pid → List ℕ → Bool
is_family births p others = are_same_numbers (p.0 ∷ others) (p.0 ∷ others_of births p)

-- the record of the process with this number
abbrev pub record_told : List BackRec → ℕ → Option BackRec
record_told recs n = if nat_lt n (2 ^ 32) then record_in recs (pid_no n) else None

-- the records of the processes with these numbers; or one of them has none
abbrev pub TakesRecords : List BackRec → List ℕ → Option (List BackRec) → Type 0
TakesRecords recs ns (Some more) = map Some more ≡ map (record_told recs) ns
TakesRecords recs ns None = list_any (λ n. is_none (record_told recs n)) ns ≡ true

-- the first of these records has a state
abbrev pub is_stated : List BackRec → Bool
is_stated more = option_map_or (λ (r : BackRec). is_some r.state) (first_record more) false

-- the entry by which its home hands on these records
abbrev pub standing_entry : FrontState → StandingHead → ClusterNo → ClusterNo → List BackRec → Entry
standing_entry front head home to more = entry_at front head.place (record { by = Cluster home; what = Rebackup to false more })

-- by these a line is answered right
abbrev pub AnswersStanding : FrontState → StandingHead → List ℕ → Bool → List (Pid × Pid) → List BackRec → Option Entry → Type 0
AnswersStanding front head others moved births recs result =
    Decides MayStand (KeepsStanding front head.pid moved births recs)
    (record { place = head.place; by = head.by; what = ToldStanding ((head.pid).0 ∷ others) head.to }) result
