-- What a cluster has at boot.
use Rattle.std.specs.Prelude.{ℕ, ◌≡◌, ◌%◌, Bool, false, ◌==◌, if◌then◌else◌, List, map, filter, None, option_map}
use Rattle.std.specs.Map.{lookup}
use Rattle.std.specs.Option.{option_map_or}
use Rattle.t32_base.specs.declared.process.Pid.{Pid}
use Rattle.t32_base.specs.declared.process.ClusterNo.{ClusterNo}
use Rattle.t32_base.specs.declared.letter.BackRec.{BackRec}
use Rattle.sys_text.specs.declared.system.System.{System}
use Rattle.proc_state.specs.declared.process.Process.{Process}
use Rattle.proc_state.specs.State.{ProcState}
use Rattle.plain_kernel.specs.Maps.{AreFresh, at_key, linked_processes, pid_of, processes_of as states_of}
use Rattle.bus_msg.specs.declared.placed.Placed.{Placed}
use Rattle.bus_msg.specs.Places.{Places, is_cluster, unended_at}
use Rattle.backup_records.specs.Records.{record_in}
use Rattle.log_laws.specs.records.Kept.{record_at_boot}
use Rattle.residents.specs.Held.{Held, Runs}

-- a pid of a root belongs to the cluster where that is at home: its number modulo 16 is the cluster's
abbrev pub belongs_to : ClusterNo → ℕ → Bool
belongs_to k n = n % 16 == k.0

-- it runs, under its pid
abbrev pub running_at : ℕ × Process → Pid × Held
running_at e = (pid_of e.0, Runs e.1)

-- of the processes of a kernel those that belong to a cluster run here, each at its start: it has read nothing, and no page of it is marked
pub record RunFrom (kernel : List (Pid × ProcState)) (number : ClusterNo) (here : List (Pid × Held)) : Type 0 where
  pub all : List (ℕ × Process)
  pub states : states_of all ≡ filter (λ (e : Pid × ProcState). belongs_to number (e.0).0) kernel
  pub fresh : AreFresh all
  pub own : here ≡ map running_at all

-- the same of a kernel at its start, linked by the channels
abbrev pub AreBooted : System → ClusterNo → List (Pid × Held) → Type 0
AreBooted system number here = RunFrom (linked_processes system) number here

-- they are the records of those processes that have not ended and whose backup is in the cluster
abbrev pub AreFirstRecords : Places → ClusterNo → List (ℕ × ProcState) → List BackRec → Type 0
AreFirstRecords places k all recs =
    (p : Pid) → record_in recs p
    ≡ (if option_map_or (λ (q : Placed). is_cluster q.backup k) (unended_at places p) false
    then option_map (λ (s : ProcState). record_at_boot (p, s)) (lookup (at_key p.0) all)
    else None)
