-- The disks of clusters, of which the words of a script make calls fail.
use Rattle.std.specs.Prelude.{ℕ, ◌≡◌, ◌<◌, ◌-◌, ◌^◌, true, ◌&&◌, nat_lt, not, if◌then◌else◌, List, [], ◌∷◌, take, Some, None}
use Rattle.std.specs.List.{flat_map}
use Rattle.t32_base.specs.declared.process.ClusterNo.{ClusterNo}
use Rattle.bus_msg.specs.declared.entry.Cause.TheVariants.{Disk}
use Rattle.bus_msg.specs.declared.entry.Entry.{Entry}
use Rattle.bus_msg.specs.Places.{same_cluster}
use Rattle.cert_sched.specs.declared.script.ScriptWord.{ScriptWord}
use Rattle.cert_sched.specs.declared.script.ScriptWord.TheVariants.{CrashAt, CrashStep, DiskAt, ReturnAt}
use Rattle.cert_sched.specs.Losses.{was_lost_in}
use Rattle.cert_sched.specs.Scripted.{is_server}
use Rattle.cluster_core.specs.View.{ClusterView, failing_in}
use Rattle.bus_order.specs.Script.{has_unused}

-- the call of this cluster's disk that a word names; the greatest u64, at which a count stands still, names none
abbrev pub call_of : ClusterNo → ScriptWord → List ℕ
call_of k (CrashAt j place) = []
call_of k (CrashStep j step) = []
call_of k (DiskAt j call) = if same_cluster j k && nat_lt call (2 ^ 64 - 1) then call ∷ [] else []
call_of k (ReturnAt j place) = []

-- those that a script names
abbrev pub calls_for : ClusterNo → List ScriptWord → List ℕ
calls_for k script = flat_map (call_of k) script

-- the cluster has a disk exactly where it is a page server that was not lost in what it has taken in of the log, of which just the calls fail that the script names
abbrev pub IsDiskOf : List ScriptWord → List Entry → ClusterView → Type 0
IsDiskOf script log c = failing_in c.server ≡ (if is_server c.system c.number && not (was_lost_in (take c.cursor log) c.number) then Some (Some (calls_for c.number script)) else None)

-- a call of its disk failed, which a word of the script names, and no process is there any more
pub record HasFailed (script : List ScriptWord) (c : ClusterView) : Type 0 where
  pub call : ℕ
  pub failed : c.failed ≡ Some call
  pub named : has_unused script c.number (Disk call) ≡ true
  pub fits : call < 2 ^ 64 - 1
  pub none : c.here ≡ []
